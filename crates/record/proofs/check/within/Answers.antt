-- `record::check::within` meets its contract, by the signs of the credit and of the lower end.
use Prim.Native.Nat.{ℕ, zero, suc, ◌<◌, ◌^◌}
use mathlib.Core.Bool.{true, false, true≢false, false≢true}
use mathlib.Core.Path.{◌≡◌, refl, sym, ◌∙◌}
use native.Mathlib.Omega.{arith}
use lib.IntN.{ℤ, pos, negsuc, neg_ℤ, ◌-ℤ◌, +ℤ_idl}
use lib.Signed.{le_z}
use mir.Syntax.{w64}
use mir.Val.{SFits, to_z, of_z}
use mir.Facts.{to_z-of_z, to_z_pos}
use borrow.Author.Tests.{leb-true, leb-false, le-leb, lt-leb}
use Rattle.machine.specs.Record.{between}
use Rattle.record.proofs.check.within.Goals as goal

-- ---- the numbers that the machine reads back from their bits
fits : (n : ℕ) → n < 2 ^ 62 → SFits w64 (pos n)
fits n h = record { sfits = omega arith }

minus-fits : (n : ℕ) → n < 2 ^ 62 → SFits w64 (neg_ℤ (pos n))
minus-fits zero h = record { sfits = omega arith }
minus-fits (suc n) h = record { sfits = omega arith }

plain : (n : ℕ) → n < 2 ^ 62 → to_z w64 n ≡ pos n
plain n h = to_z_pos w64 {n = n} (fits n h).sfits

minus : (n : ℕ) → n < 2 ^ 62 → pos 0 -ℤ to_z w64 n ≡ neg_ℤ (pos n)
minus n h = rw (plain n h) (+ℤ_idl (neg_ℤ (pos n)))

minus-plain : (n : ℕ) → n < 2 ^ 62 → to_z w64 (of_z w64 (pos 0 -ℤ to_z w64 n)) ≡ neg_ℤ (pos n)
minus-plain n h = rw (minus n h) (to_z-of_z (minus-fits n h))

-- ---- the two tests
below : (low high : ℕ) (z : ℤ) → le_z (neg_ℤ (pos low)) z ≡ false → false ≡ between low high z
below zero high (pos n) e = absurd (omega (arith, leb-false 0 n e))
below (suc l) high (pos n) e = absurd (true≢false e)
below zero high (negsuc n) e = sym (lt-leb (suc n) 0 (omega arith))
below (suc l) high (negsuc n) e = sym (lt-leb (suc n) (suc l) (omega (arith, leb-false n l e)))

above : (low high : ℕ) (z : ℤ) → le_z (neg_ℤ (pos low)) z ≡ true → le_z z (pos high) ≡ between low high z
above zero high (pos n) e = refl
above (suc l) high (pos n) e = refl
above zero high (negsuc n) e = absurd (false≢true e)
above (suc l) high (negsuc n) e = sym (le-leb (suc n) (suc l) (omega (arith, leb-true n l e)))

module _ (low high : ℕ) (z : ℤ) (l : low < 2 ^ 62) (h : high < 2 ^ 62) (f : SFits w64 z) where
  is_below : le_z (to_z w64 (of_z w64 (pos 0 -ℤ to_z w64 low))) (to_z w64 (of_z w64 z)) ≡ false → false ≡ between low high z
  is_below e = below low high z (rw (to_z-of_z f, minus-plain low l) at e)

  is-above : le_z (to_z w64 (of_z w64 (pos 0 -ℤ to_z w64 low))) (to_z w64 (of_z w64 z)) ≡ true → le_z (to_z w64 (of_z w64 z)) (to_z w64 high) ≡ between low high z
  is-above e = rw (to_z-of_z f, plain high h) (above low high z (rw (to_z-of_z f, minus-plain low l) at e))

pub overflow_sub-low : goal.overflow_sub-low
overflow_sub-low c = rw (minus c.args.low c.requires.low_bound) (minus-fits c.args.low c.requires.low_bound)

pub returns-then-low-credit : goal.returns-then-low-credit
returns-then-low-credit c = is-above c.args.low c.args.high c.args.credit c.requires.low_bound c.requires.high_bound c.ranges.credit c.if-low-credit.true

pub returns-else-low-credit : goal.returns-else-low-credit
returns-else-low-credit c = c.if-low-credit.false ∙ is_below c.args.low c.args.high c.args.credit c.requires.low_bound c.requires.high_bound c.ranges.credit c.if-low-credit.false
