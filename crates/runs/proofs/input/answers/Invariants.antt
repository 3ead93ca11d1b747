-- `runs::input::answers` meets its contract. The loop's invariant: the answers to the first bytes stand in the buffer, and the bytes that are left decide the rest.
use Rattle.runs.proofs.Runs.{Sofar}
use Rattle.runs.proofs.input.answers.Given as goal

abbrev pub invariant-loop-b : goal.invariant-loop-b
invariant-loop-b l = Sofar l.s l.initial.port l.initial.line l.initial.out l.out l.port l.line l.at l.b-index
