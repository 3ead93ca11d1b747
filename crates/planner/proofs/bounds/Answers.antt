-- `planner::bounds` meets its contract: an accepted table's bounds stand before zeros.
use Prim.Native.Nat.{ℕ, zero, suc, ◌-◌}
use mathlib.Core.Bool.{false}
use mathlib.Core.List.{List}
use mathlib.Core.Path.{◌≡◌, refl, ◌∙◌}
use native.Mathlib.Nat.{sub-zero, zero-sub, suc-sub-suc}
use lib.ListN.{length, drop, replicate}
use Rattle.table.specs.Limits.{most_rows}
use Rattle.table.specs.Rows.{Contents}
use Rattle.table.specs.Checks.{accepted}
use Rattle.planner.specs.Bound.{bounds}
use Rattle.planner.specs.Opening.{opening}
use Rattle.planner.specs.Plan.{BoundsIn}
use Rattle.planner.proofs.Limits.{all_filled}
use Rattle.planner.proofs.bounds.Goals as goal

-- behind the first n of m zeros there are m - n
zeros : (n m : ℕ) → drop {A = ℕ} n (replicate m 0) ≡ replicate (m - n) 0
zeros zero m = rw sub-zero refl
zeros (suc n) zero = rw zero-sub refl
zeros (suc n) (suc m) = rw suc-sub-suc (zeros n m)

shown : (t : Contents) {xs : List ℕ} → BoundsIn false t (replicate most_rows 0) xs → opening t ≡ accepted → xs ≡ bounds t
unfolding bounds
shown t h e = all_filled false t (replicate most_rows 0) h e ∙ rw (zeros (length t.rows) most_rows) refl

pub returns : goal.returns
returns c = let made = c.in_ok-classes.ensures.classed in record { verdict = made.verdict; bounds = shown _ c.classes.ensures.bounds made.verdict }
