-- `record::check::credit_ok` meets its contract: the ends of the range are far inside the numbers of the machine.
use mathlib.Core.Bool.{Bool}
use mathlib.Core.Path.{◌≡◌}
use lib.IntN.{ℤ}
use mir.Val.{Fits, SFits, to_z, of_z}
use mir.Facts.{to_z-of_z}
use Rattle.table.specs.Limits.{D, most_slope, most_size}
use Rattle.machine.specs.Record.{between}
use Prim.Native.Nat.{ℕ, ◌-◌, ◌*◌, ◌≤◌, ◌<◌, ◌^◌}
use native.Mathlib.Nat.{mul-le-mul}
use native.Mathlib.Omega.{arith}
use mir.Syntax.{w64}
use Rattle.figures.specs.declared.Lane.{Lane}
use Rattle.record.proofs.check.credit_ok.Goals as goal

module _ (l : Lane) where
  low_end : l.largest ≤ most_size → (D - l.idle) * l.largest < 2 ^ 62
  low_end h =
      let send : D - l.idle ≤ D = omega arith in
      let most : (D - l.idle) * l.largest ≤ D * most_size = mul-le-mul send h in
      omega arith

  high_end : l.idle ≤ most_slope → l.blocking ≤ 5 * most_size → l.idle * l.blocking < 2 ^ 62
  high_end i h = let most : l.idle * l.blocking ≤ most_slope * (5 * most_size) = mul-le-mul i h in omega arith

fits : {n : ℕ} → n < 2 ^ 62 → Fits w64 n
fits h = record { fits = omega arith }

-- the credit as the callee reads it back from its bits
passed : (low high : ℕ) (z : ℤ) {r : Bool} → SFits w64 z → r ≡ between low high (to_z w64 (of_z w64 z)) → r ≡ between low high z
passed low high z f e = rw (to_z-of_z f) at e

pub overflow_mul-send : goal.overflow_mul-send
overflow_mul-send c =
    fits (low_end c.args.l c.requires.largest_le_most_size)

pub overflow_mul-l : goal.overflow_mul-l
overflow_mul-l c =
    fits (high_end c.args.l c.requires.idle_le_most_slope c.requires.blocking_bound)

pub within-requires : goal.within-requires
within-requires c =
    record { low_bound = low_end c.args.l c.requires.largest_le_most_size; high_bound = high_end c.args.l c.requires.idle_le_most_slope c.requires.blocking_bound }

pub returns : goal.returns
returns c =
    passed _ _ c.args.credit c.ranges.credit c.within.ensures
