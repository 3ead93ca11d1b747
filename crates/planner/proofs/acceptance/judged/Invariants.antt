-- `planner::acceptance::judged` meets its contract: the search goes from row to row, at i a class's sum so far, and what the rows from i on add, are the whole, and the first i
-- places hold the bounds.
use Prim.Native.Nat.{ℕ, ◌+◌, ◌*◌, ◌^◌, ◌≤◌}
use mathlib.Core.List.{List}
use mathlib.Core.Path.{◌≡◌}
use lib.ListN.{drop}
use Rattle.table.specs.declared.Class.{Class}
use Rattle.table.specs.declared.Class.TheVariants.{A, B}
use Rattle.table.specs.declared.Row.{Row}
use Rattle.table.proofs.Laws.{Passed}
use Rattle.figures.specs.declared.Lane.{Lane}
use Rattle.planner.specs.Sums.{sum_over}
use Rattle.planner.specs.Steps.{timely_by, most_by, filled_by}
use Rattle.planner.proofs.acceptance.judged.Given as goal

-- what the rows from i on add to a class's sum
abbrev pub Rest : Class → Lane → Lane → List Row → ℕ → ℕ → Type 0
Rest c a b rs i n = n + sum_over c (most_by a b) (drop i rs) ≡ sum_over c (most_by a b) rs

abbrev pub invariant-loop-i : goal.invariant-loop-i
invariant-loop-i l =
    Passed (timely_by l.lanes.a l.lanes.b) l.rows l.i × (l.ofa ≤ l.i * 2 ^ 33) × (l.ofb ≤ l.i * 2 ^ 33) × Rest A l.lanes.a l.lanes.b l.rows l.i l.ofa × Rest B l.lanes.a l.lanes.b l.rows l.i l.ofb × (l.out ≡ filled_by l.lanes.a l.lanes.b l.rows l.i l.initial.out)
