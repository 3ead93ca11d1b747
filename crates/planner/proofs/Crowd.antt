-- What the loop over the rows works out of a row: whether it is late, and that a row that is there has a residence.
use Prim.Native.Nat.{ℕ, ◌≤◌, ◌<◌}
use mathlib.Core.Bool.{true, false}
use mathlib.Core.Path.{◌≡◌}
use native.Mathlib.Omega.{arith}
use borrow.Author.Tests.{le-leb, lt-leb}
use Rattle.table.specs.declared.Row.{Row}
use Rattle.table.specs.Rows.{is_there}
use Rattle.table.proofs.Laws as table
use Rattle.figures.specs.declared.Lane.{Lane}
use Rattle.figures.specs.Steps.{time_by}
use Rattle.planner.specs.Bound.{until_report}
use Rattle.planner.specs.Steps.{timely_by}

module _ (a b : Lane) (r : Row) {n : ℕ} (e : n ≡ time_by a b r) where
  pub some : is_there r ≡ true → 0 < n
  some h = rw (e, h) (omega (arith, table.size_least r))

  module _ {m : ℕ} (is : m ≡ until_report n) where
    pub late : r.deadline < m → timely_by a b r ≡ false
    late h = rw (← e, ← is) (lt-leb _ _ h)

    pub in_time : m ≤ r.deadline → timely_by a b r ≡ true
    in_time h = rw (← e, ← is) (le-leb _ _ h)
