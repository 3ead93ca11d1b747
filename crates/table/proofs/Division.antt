-- Quotients rounded up.
use Prim.Native.Nat.{ℕ, zero, suc, ◌+◌, ◌-◌, ◌*◌, ◌/◌, ◌%◌, ◌≤◌, ◌<◌, min}
use mathlib.Core.Path.{◌≡◌}
use native.Mathlib.Omega.{arith}
use native.Mathlib.Nat.{div-zero, div-lt_iff_lt-mul, le-div_iff_mul-le, lt-div-mul-add, le-mul_of_pos_right, le_refl, le_trans, suc-mul}
use Rattle.std.proofs.lemmas.Grind.{div_ceil_times}
use Rattle.table.specs.Wire.{ceil_div}

pub ceil_by_zero : (n : ℕ) → ceil_div n 0 ≡ 0
unfolding ceil_div
ceil_by_zero n = div-zero (n + (0 - 1))

-- rounded up: at least the quotient
pub ceil_covers : (n d : ℕ) → 0 < d → n ≤ ceil_div n d * d
unfolding ceil_div
ceil_covers n d pos = omega (arith, lt-div-mul-add {a = n + (d - 1)} {b = d} pos)

-- rounded up: at most each q that covers the quotient
pub ceil_most : (n d q : ℕ) → 0 < d → n ≤ q * d → ceil_div n d ≤ q
unfolding ceil_div
ceil_most n d q pos h =
    let g : n + (d - 1) < suc q * d = rw (suc-mul q d) (omega arith) in
    omega (arith, (div-lt_iff_lt-mul {k = d} {x = n + (d - 1)} {y = suc q} pos).1 g)

-- rounded up: above each q whose product with the divisor is below the number
pub ceil_above : (n d q : ℕ) → 0 < d → q * d < n → q < ceil_div n d
unfolding ceil_div
ceil_above n d q pos h = (le-div_iff_mul-le {k = d} {x = suc q} {y = n + (d - 1)} pos).1 (rw (suc-mul q d) (omega arith))

-- as the library rounds up: one more than the quotient where there is a remainder
pub ceil_is : (n d : ℕ) → 0 < d → n / d + min 1 (n % d) ≡ ceil_div n d
ceil_is n d pos =
    let b = div_ceil_times n d pos in
    omega (arith, ceil_most n d (n / d + min 1 (n % d)) pos b.0, reached (n / d + min 1 (n % d)) b.1)
  where
    reached : (q : ℕ) → q * d < n + d → q ≤ ceil_div n d
    reached zero h = omega arith
    reached (suc q) h = let g = rw suc-mul at h in omega (arith, ceil_above n d q pos (omega arith))

pub ceil_le : (n d : ℕ) → ceil_div n d ≤ n
ceil_le n zero = rw (ceil_by_zero n) (omega arith)
ceil_le n (suc d) = ceil_most n (suc d) n (omega arith) (le-mul_of_pos_right n (omega arith))

-- a larger number has no smaller quotient
pub div_grows : (n m d : ℕ) → n ≤ m → n / d ≤ m / d
div_grows n m zero h = rw (div-zero n, div-zero m) (omega arith)
div_grows n m (suc d) h = (le-div_iff_mul-le {k = suc d} {x = n / suc d} {y = m} (omega arith)).1 (le_trans ((le-div_iff_mul-le {k = suc d} {x = n / suc d} {y = n} (omega arith)).0 (le_refl _)) h)

pub ceil_grows : (n m d : ℕ) → n ≤ m → ceil_div n d ≤ ceil_div m d
unfolding ceil_div
ceil_grows n m d h = div_grows (n + (d - 1)) (m + (d - 1)) d (omega arith)
