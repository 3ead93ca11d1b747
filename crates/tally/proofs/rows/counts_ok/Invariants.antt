-- `tally::rows::counts_ok` meets its contract: all rows below i pass.
use Prim.Native.Nat.{◌≤◌}
use mathlib.Core.Bool.{true}
use mathlib.Core.Path.{◌≡◌}
use Rattle.machine.specs.Record.{up_to}
use Rattle.notes.specs.Notes.{newests, counts}
use Rattle.tally.specs.Steps.{counts_test}
use Rattle.tally.proofs.rows.counts_ok.Given as goal

abbrev pub invariant-loop-i : goal.invariant-loop-i
invariant-loop-i l = (l.i ≤ l.fn.t.count) × (up_to l.i (counts_test l.fn.t l.lanes.a l.lanes.b l.last (newests l.noted) (counts l.noted)) ≡ true)
