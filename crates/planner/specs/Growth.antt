-- What a row that joins does to a table, and what one that leaves does.
use Rattle.std.specs.Prelude.{ℕ, ◌≤◌, ◌<◌, true, ◌≡◌}
use Rattle.table.specs.declared.Class.{Class}
use Rattle.table.specs.declared.Row.{Row}
use Rattle.table.specs.Limits.{most_rows}
use Rattle.table.specs.Checks.{accepted, first}
use Rattle.table.specs.Ranges.{InRange}
use Rattle.table.specs.Rows.{Contents, InUse, with_row, without_row}
use Rattle.planner.specs.Sums.{members, largest, total, shares}
use Rattle.planner.specs.Bound.{blocking, residence, bound, most_of}
use Rattle.planner.specs.Opening.{slopes_ok, fair_checks, IsAccepted}

-- Of two tables with the same header no sum, largest size, blocking, residence, bound or count of frames is less in the second.
pub record NoLess (t u : Contents) : Type 0 where
  pub header : t.header ≡ u.header
  pub members : (c : Class) → members c t ≤ members c u
  pub total : (c : Class) → total c t ≤ total c u
  pub shares : (c : Class) → shares c t ≤ shares c u
  pub largest : (c : Class) → largest c t ≤ largest c u
  pub blocking : (c : Class) → blocking c t ≤ blocking c u
  pub residence : (r : Row) → residence t r ≤ residence u r
  pub bound : (r : Row) → bound t r ≤ bound u r
  pub most : (r : Row) → most_of t r ≤ most_of u r

-- None of them falls when a row joins at a number that is not in use.
abbrev pub JoinRaises : Type 0
JoinRaises = (t : Contents) (k : ℕ) (r : Row) → (InUse t k → ⊥) → NoLess t (with_row k r t)

-- A table with a row in range more is accepted if 8, 9, 10 and 20 let it pass.
abbrev pub JoinAccepted : Type 0
JoinAccepted = (t : Contents) (k : ℕ) (r : Row) → IsAccepted t → k < most_rows → InRange r → first (fair_checks (with_row k r t)) ≡ accepted → IsAccepted (with_row k r t)

-- None of them rises when a row leaves, and what is left of an accepted table is accepted again, but for the slope rules.
abbrev pub LeaveLowers : Type 0
LeaveLowers = (t : Contents) (k : ℕ) → NoLess (without_row k t) t

abbrev pub LeaveAccepted : Type 0
LeaveAccepted = (t : Contents) (k : ℕ) → IsAccepted t → InUse t k → slopes_ok (without_row k t) ≡ true → IsAccepted (without_row k t)
