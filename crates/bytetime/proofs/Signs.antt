-- Signed numbers of 64 bits, and how large a sum can be.
use Prim.Native.Nat.{ℕ, zero, suc, ◌+◌, ◌-◌, ◌≤◌, ◌<◌, ◌^◌}
use mathlib.Core.Bool.{Bool, true, false, cond}
use mathlib.Core.Path.{◌≡◌}
use native.Mathlib.Omega.{arith}
use lib.IntN.{ℤ, pos, negsuc, sub_ℕ, ◌+ℤ◌, ◌-ℤ◌}
use lib.Dec.{ltb}
use lib.Signed.{mag}
use mir.Syntax.{w64}
use mir.Val.{SFits, to_z, of_z}
use mir.Facts.{to_z-of_z}
use Rattle.machine.specs.Time.{up_to_zero, rise}
use Rattle.bytetime.specs.Bytes.{earned_with, settled_with, credit_after}

-- a number of 64 bits is itself
pub plain : {z : ℤ} → SFits w64 z → to_z w64 (of_z w64 z) ≡ z
plain f = to_z-of_z f

pub small : {z : ℤ} → mag z < 2 ^ 63 → SFits w64 z
small h = record { sfits = h }

-- ---- magnitudes
mag_difference : (a b : ℕ) → mag (sub_ℕ a b) ≤ a + b
mag_difference a b = go (ltb a b)
  where
    go : (t : Bool) → mag (cond t (negsuc (b - suc a)) (pos (a - b))) ≤ a + b
    go true = omega arith
    go false = omega arith

pub mag_add : (c : ℤ) (i : ℕ) → mag (c +ℤ pos i) ≤ mag c + i + 1
mag_add (pos n) i = omega arith
mag_add (negsuc n) i = omega (arith, mag_difference i (suc n))

pub mag_sub : (c : ℤ) (s : ℕ) → mag (c -ℤ pos s) ≤ mag c + s + 1
mag_sub (pos n) zero = omega arith
mag_sub (pos n) (suc s) = omega (arith, mag_difference n (suc s))
mag_sub (negsuc n) zero = omega (arith, mag_difference 0 (suc n))
mag_sub (negsuc n) (suc s) = omega arith

pub mag_cap : (c : ℤ) → mag (up_to_zero c) ≤ mag c
mag_cap (pos n) = omega arith
mag_cap (negsuc n) = omega arith

pub mag_rise : (c : ℤ) (i : ℕ) → mag (rise c i) ≤ mag c + i + 1
mag_rise (pos n) i = omega arith
mag_rise (negsuc n) i = omega (arith, mag_cap (negsuc n +ℤ pos i), mag_add (negsuc n) i)

mag_settled : (still waits : Bool) (c : ℤ) → mag (settled_with still waits c) ≤ mag c
mag_settled true waits c = omega arith
mag_settled false true c = omega arith
mag_settled false false c = mag_cap c

mag_earned : (on waits : Bool) (i s : ℕ) (c : ℤ) {most : ℕ} → i ≤ most → s ≤ most → mag (earned_with on waits i s c) ≤ mag c + most + 1
mag_earned true waits i s c h g = omega (arith, mag_sub c s)
mag_earned false true i s c h g = omega (arith, mag_add c i)
mag_earned false false i s c h g = omega (arith, mag_rise c i)

pub mag_after : (on still waits : Bool) (i s : ℕ) (c : ℤ) {most : ℕ} → i ≤ most → s ≤ most → mag (credit_after on still waits i s c) ≤ mag c + most + 1
mag_after on still waits i s c h g = omega (arith, mag_settled still waits (earned_with on waits i s c), mag_earned on waits i s c h g)
