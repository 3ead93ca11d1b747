-- `replay::list::steps` meets its contract: at i the port is the machine's after the first i calls, and their answers stand in the buffer.
use mathlib.Core.Path.{◌≡◌}
use lib.ListN.{length}
use Rattle.table.specs.Rows.{Contents}
use Rattle.machine.specs.State.{fresh, view}
use Rattle.replay.proofs.Listing.{Sofar}
use Rattle.replay.proofs.list.steps.Given as goal

abbrev pub invariant-loop-i : goal.invariant-loop-i
invariant-loop-i l = (length l.out ≡ length l.initial.out) × ((t : Contents) → view l.initial.p ≡ fresh t → Sofar t l.calls l.initial.out l.i l.p l.out)
