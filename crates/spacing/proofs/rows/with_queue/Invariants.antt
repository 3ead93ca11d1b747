-- `spacing::rows::with_queue` meets its contract: the frames so far are listed.
use Rattle.spacing.proofs.Listed.{Listing}
use Rattle.spacing.proofs.rows.with_queue.Given as goal

abbrev pub invariant-loop-f : goal.invariant-loop-f
invariant-loop-f l = Listing l.k l.fn.xs l.frames l.f-index l.next
