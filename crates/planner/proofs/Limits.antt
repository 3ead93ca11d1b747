-- The bound at a number, and what a row counts for.
use Prim.Native.Nat.{ℕ, ◌-◌, ◌≤◌, ◌<◌}
use mathlib.Core.Bool.{Bool, true}
use mathlib.Core.List.{List, map, ◌++◌}
use mathlib.Core.Path.{◌≡◌, refl, ◌∙◌}
use lib.ListN.{length, get_or, drop, replicate, get_or-append, length-map}
use lib.Seq.{take-length}
use Rattle.table.specs.Limits.{most_rows}
use Rattle.table.specs.Wire.{size_of}
use Rattle.table.specs.Rows.{no_row, is_there, Contents, row_at, InUse}
use Rattle.table.specs.Checks.{accepted}
use Rattle.table.proofs.Laws.{same_self}
use Rattle.planner.specs.Sums.{counts, members, total}
use Rattle.planner.specs.Bound.{bound, if_there, bounds_of, bounds}
use Rattle.planner.specs.Opening.{verdict_by}
use Rattle.planner.specs.Plan.{BoundsIn}
use Rattle.planner.proofs.Members.{sum_at}
use Rattle.planner.proofs.Fill.{get_d_map_in}

-- the bound of a number in use stands at it
pub bound_at : (t : Contents) (k : ℕ) → InUse t k → get_or (bounds_of t) k 0 ≡ bound t (row_at t k)
unfolding bounds_of
bound_at t k u = get_d_map_in (if_there (bound t)) t.rows k no_row 0 u.below ∙ rw u.there refl

-- and those of an accepted table stand in the places that `classes` is lent
pub all_filled : (gaps : Bool) (t : Contents) (xs : List ℕ) {ys : List ℕ} → BoundsIn gaps t xs ys → verdict_by gaps t ≡ accepted → ys ≡ bounds_of t ++ drop (length t.rows) xs
unfolding bounds_of
all_filled gaps t xs h e = h ∙ rw (e, take-length t.rows) refl

pub bounds_row : (t : Contents) (k : ℕ) → InUse t k → get_or (bounds t) k 0 ≡ bound t (row_at t k)
unfolding bounds bounds_of
bounds_row t k u = get_or-append (map (if_there (bound t)) t.rows) (replicate (most_rows - length t.rows) 0) 0 k (rw length-map u.below) ∙ bound_at t k u

module _ (t : Contents) (k : ℕ) (h : k < length t.rows) (there : is_there (get_or t.rows k no_row) ≡ true) where
  own_class : counts (get_or t.rows k no_row).class (get_or t.rows k no_row) ≡ true
  own_class = rw (there, same_self (get_or t.rows k no_row).class) refl

  pub counted : 0 < members (get_or t.rows k no_row).class t
  unfolding members
  counted = sum_at (get_or t.rows k no_row).class (λ r. 1) t.rows k no_row h own_class

  pub summed : size_of (get_or t.rows k no_row) ≤ total (get_or t.rows k no_row).class t
  unfolding total
  summed = sum_at (get_or t.rows k no_row).class size_of t.rows k no_row h own_class
