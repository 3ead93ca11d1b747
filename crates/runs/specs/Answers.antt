-- The calls that `portrun` makes, and the answers that it prints.
use Rattle.std.specs.Prelude.{ℕ, ◌≡◌, Option, Some, None}
use Rattle.machine.specs.declared.Frame.{Frame}
use Rattle.machine.specs.Limits.{no_mark}
use Rattle.machine.specs.declared.Port.{Port}
use Rattle.machine.specs.State.{view}
use Rattle.machine.specs.Calls as machine
use Rattle.texts.specs.declared.lines.Call.{Call}
use Rattle.texts.specs.declared.lines.Call.TheVariants.{Offer, Best, Advance}
use Rattle.texts.specs.declared.text.Answer.{Answer}
use Rattle.texts.specs.declared.text.Answer.TheVariants.{Refused, Passed}
use Rattle.machine.specs.declared.After.{After}

-- The call of the machine that each case stands for.
abbrev pub call_of : Call → machine.Call
call_of (Offer row payload) = machine.offer row payload
call_of (Best payload) = machine.offer_best payload
call_of (Advance n) = machine.advance n

-- The ended frame's row: 32 best effort, 33 none.
abbrev pub row_of : Option Frame → ℕ
row_of (Some f) = f.source
row_of None = no_mark

-- `refused`, number, place; or `0`, byte-times passed, ended frame's row. An offer taken prints `0 0 33`.
abbrev pub answer_of : machine.Answer → Answer
answer_of machine.taken = Passed 0 no_mark
answer_of (machine.passed n e) = Passed n (row_of e)
answer_of (machine.denied n p) = Refused n p

-- A call gives what it promises, and its answer as it is printed.
pub record Made (p : Port) (c : machine.Call) (r : After Answer) : Type 0 where
  pub answer : r.answer ≡ answer_of (machine.answer (view p) c)
  pub gives : machine.Gives p c (machine.answer (view p) c) r.port
