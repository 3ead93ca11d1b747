-- A call on a port, and its answer as it is printed.
use mathlib.Core.Path.{◌≡◌, ap}
use Rattle.machine.specs.declared.Port.{Port}
use Rattle.machine.specs.Calls as machine
use Rattle.texts.specs.declared.lines.Call.{Call}
use Rattle.machine.specs.declared.After.{After}
use Rattle.texts.specs.declared.text.Answer as text
use Rattle.runs.specs.Answers.{answer_of, call_of, Made}
use Rattle.runs.specs.Steps.{after_call}

made : {p q : Port} {c : machine.Call} {a : machine.Answer} → machine.Gives p c a q → Made p c (after_call a q)
made g = record { answer = ap answer_of g.answer; gives = rw g.answer at g }

pub call_made : {c d : Call} {p q : Port} {a : machine.Answer} {r : After text.Answer} → c ≡ d → machine.Gives p (call_of d) a q → r ≡ after_call a q → Made p (call_of c) r
call_made e g f = rw (e, f) (made g)
