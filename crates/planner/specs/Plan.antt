-- What the planner hands out for a table: its verdict, and figures where it is accepted.
use Rattle.std.specs.Prelude.{ℕ, Bool, cond, List, map, ◌++◌, ◌≡◌, eqb, length, take, drop, replicate, Result, Ok, Err}
use Rattle.table.specs.declared.Class.{Class}
use Rattle.table.specs.declared.Class.TheVariants.{A, B}
use Rattle.table.specs.Limits.{most_rows}
use Rattle.table.specs.Rows.{Contents}
use Rattle.table.specs.Checks.{Outcome, accepted, refused, outcome_of}
use Rattle.table.specs.declared.Refusal.{Refusal}
use Rattle.figures.specs.declared.Lane.{Lane}
use Rattle.figures.specs.declared.Both.{Both}
pub use Rattle.figures.specs.Lanes.{pick_lane, most_modest}
unfoldable pub use Rattle.figures.specs.Lanes.{modest, residence_by}
use Rattle.planner.specs.Sums.{idle, largest, total}
use Rattle.planner.specs.Bound.{blocking, bound, if_there, bounds}
use Rattle.planner.specs.Opening.{opening, verdict_by}

-- What a class's residences are made of.
abbrev pub lane_of : Class → Contents → Lane
lane_of c t = record { idle = idle c t; largest = largest c t; total = total c t; blocking = blocking c t }

-- An accepted table's bounds; zeros at a refusal.
abbrev pub bounds_at : Outcome → Contents → List ℕ
bounds_at accepted t = bounds t
bounds_at (refused n p) t = replicate most_rows 0

-- The answer of `classes`: a table that the verdict asked for accepts has its classes, and another that verdict's refusal.
pub record ClassesOf (gaps : Bool) (t : Contents) (l : Both Lane) : Type 0 where
  pub verdict : verdict_by gaps t ≡ accepted
  pub a : l.a ≡ lane_of A t
  pub b : l.b ≡ lane_of B t

abbrev pub Classed : Bool → Contents → Result (Both Lane) Refusal → Type 0
Classed gaps t (Ok l) = ClassesOf gaps t l
Classed gaps t (Err r) = verdict_by gaps t ≡ outcome_of (Err r)

-- The bounds of the first n numbers at the front of some places.
abbrev pub filled_to : ℕ → Contents → List ℕ → List ℕ
filled_to n t places = map (if_there (bound t)) (take n t.rows) ++ drop n places

-- How many bounds a verdict takes: none before rule 10, those of the rows before the late one, or all.
abbrev pub bounds_for : Outcome → Contents → ℕ
bounds_for accepted t = length t.rows
bounds_for (refused n p) t = cond (eqb n 10) p (cond (eqb n 20) (length t.rows) 0)

-- Beside it these bounds stand in the first places that `classes` is lent, and the other places are as they were.
abbrev pub BoundsIn : Bool → Contents → List ℕ → List ℕ → Type 0
BoundsIn gaps t before after = after ≡ filled_to (bounds_for (verdict_by gaps t) t) t before

-- The answer of `bounds`: a table that may be opened has its bounds, and another the refusal of opening.
pub record BoundsOf (t : Contents) (bs : List ℕ) : Type 0 where
  pub verdict : opening t ≡ accepted
  pub bounds : bs ≡ bounds t

abbrev pub Shown : Contents → Result (List ℕ) Refusal → Type 0
Shown t (Ok bs) = BoundsOf t bs
Shown t (Err r) = opening t ≡ outcome_of (Err r)
