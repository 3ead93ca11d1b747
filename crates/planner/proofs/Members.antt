-- A row's part in its class: it is counted, and it is at most the largest and the sum.
use Prim.Native.Nat.{ℕ, zero, suc, ◌≤◌, ◌<◌}
use mathlib.Core.Bool.{true}
use mathlib.Core.List.{List, [], ◌∷◌}
use mathlib.Core.Path.{◌≡◌}
use native.Mathlib.Nat.{le_trans, le-add_left, le-max_right, le_of_suc-le-suc}
use native.Mathlib.Omega.{arith}
use lib.ListN.{length, get_or}
use Rattle.table.specs.declared.Class.{Class}
use Rattle.table.specs.declared.Row.{Row}
use Rattle.planner.specs.Sums.{counts, sum_over, max_over}

module _ (c : Class) (f : Row → ℕ) where
  pub sum_at : (rs : List Row) (k : ℕ) (d : Row) → k < length rs → counts c (get_or rs k d) ≡ true → f (get_or rs k d) ≤ sum_over c f rs
  unfolding sum_over
  sum_at [] k d h e = absurd (omega arith)
  sum_at (r ∷ rs) zero d h e = rw e (omega arith)
  sum_at (r ∷ rs) (suc k) d h e = le_trans (sum_at rs k d (le_of_suc-le-suc h) e) (le-add_left _ _)

  pub max_at : (rs : List Row) (k : ℕ) (d : Row) → k < length rs → counts c (get_or rs k d) ≡ true → f (get_or rs k d) ≤ max_over c f rs
  unfolding max_over
  max_at [] k d h e = absurd (omega arith)
  max_at (r ∷ rs) zero d h e = rw e (omega arith)
  max_at (r ∷ rs) (suc k) d h e = le_trans (max_at rs k d (le_of_suc-le-suc h) e) (le-max_right _ _)
