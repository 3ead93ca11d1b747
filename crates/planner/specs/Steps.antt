-- What the planner's private functions promise each other. No public promise cites this file.
use Rattle.std.specs.Prelude.{ℕ, ◌≤◌, Bool, true, List, map, ◌++◌, ◌≡◌, leb, length, take, drop, ◌<◌, Result, Ok, Err}
use Rattle.table.specs.declared.Class.{Class}
use Rattle.table.specs.declared.Class.TheVariants.{A, B}
use Rattle.table.specs.declared.Refusal.{Refusal}
use Rattle.table.specs.declared.Refusal.TheVariants.{Value, Deadline}
use Rattle.table.specs.declared.Row.{Row}
use Rattle.table.specs.Limits.{most_rows}
use Rattle.table.specs.Wire.{ceil_div, size_of, period_of, share_of}
use Rattle.table.specs.Rows.{Contents}
use Rattle.table.specs.Checks.{accepted, passing}
use Rattle.figures.specs.declared.Figures.{Figures}
use Rattle.figures.specs.declared.Lane.{Lane}
use Rattle.figures.specs.declared.Both.{Both}
use Rattle.figures.specs.Steps.{Small, Modest, time_by}
use Rattle.planner.specs.Sums.{sum_over, max_over, members, largest, total, shares}
use Rattle.planner.specs.Bound.{until_report}
use Rattle.planner.specs.Opening.{used_ok, slopes_ok, shares_ok, passes_by, ranged_by}
use Rattle.planner.specs.Plan.{lane_of}

-- A class's figures, in one record.
abbrev pub figures_of : Class → Contents → Figures
figures_of c t = record { members = members c t; largest = largest c t; total = total c t; shares = shares c t }

-- The figures of a class over some rows.
abbrev pub figures_in : Class → List Row → Figures
figures_in c rs = record { members = sum_over c (λ r. 1) rs; largest = max_over c size_of rs; total = sum_over c size_of rs; shares = sum_over c share_of rs }

-- Both classes' figures over rows that are in range, or the first row that is not.
pub record AllIn (gaps : Bool) (rs : List Row) (s : Both Figures) : Type 0 where
  pub passed : length rs ≤ passing (passes_by gaps) rs
  pub a : s.a ≡ figures_in A rs
  pub b : s.b ≡ figures_in B rs
  pub small_a : Small most_rows s.a
  pub small_b : Small most_rows s.b

abbrev pub TotalsOf : Bool → List Row → Result (Both Figures) Refusal → Type 0
TotalsOf gaps rs (Ok s) = AllIn gaps rs s
TotalsOf gaps rs (Err r) = (passing (passes_by gaps) rs < length rs) × (r ≡ Value (passing (passes_by gaps) rs))

-- The figures of both classes.
pub record Summed (t : Contents) (a b : Figures) : Type 0 where
  pub is_a : a ≡ figures_of A t
  pub is_b_lem : b ≡ figures_of B t
  pub small_a : Small most_rows a
  pub small_b : Small most_rows b

-- The checks before rule 10 have passed.
pub record Passed (gaps : Bool) (t : Contents) : Type 0 where
  pub ranged : ranged_by gaps t ≡ accepted
  pub slopes : slopes_ok t ≡ true
  pub shares_a : shares_ok A t ≡ true
  pub shares_b : shares_ok B t ≡ true

-- What two classes make of a row: its bound, whether that is within its deadline, and how many of its frames may be in the port.
abbrev pub bound_by : Lane → Lane → Row → ℕ
bound_by a b r = until_report (time_by a b r)

abbrev pub timely_by : Lane → Lane → Row → Bool
timely_by a b r = leb (bound_by a b r) r.deadline

abbrev pub most_by : Lane → Lane → Row → ℕ
most_by a b r = ceil_div (time_by a b r) (period_of r)

-- The bounds of the first n rows at the front of some places.
abbrev pub filled_by : Lane → Lane → List Row → ℕ → List ℕ → List ℕ
filled_by a b rs n places = map (bound_by a b) (take n rs) ++ drop n places

-- What the classes' frames come to over rows that are in time, or the first row that is late.
pub record AllTimely (a b : Lane) (rs : List Row) (n : Both ℕ) : Type 0 where
  pub timely : length rs ≤ passing (timely_by a b) rs
  pub ofa : n.a ≡ sum_over A (most_by a b) rs
  pub ofb : n.b ≡ sum_over B (most_by a b) rs

abbrev pub JudgementOf : Lane → Lane → List Row → Result (Both ℕ) Refusal → Type 0
JudgementOf a b rs (Ok n) = AllTimely a b rs n
JudgementOf a b rs (Err r) = (passing (timely_by a b) rs < length rs) × (r ≡ Deadline (passing (timely_by a b) rs))

-- Both classes of a table whose slopes are 0 exactly where a class has no row.
pub record Lanes (t : Contents) (a b : Lane) : Type 0 where
  pub is_a : a ≡ lane_of A t
  pub is_b_lem : b ≡ lane_of B t
  pub modest_a : Modest a
  pub modest_b : Modest b
  pub used_a : used_ok A t ≡ true
  pub used_b : used_ok B t ≡ true
