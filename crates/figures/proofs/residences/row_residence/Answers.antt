-- `figures::residences::row_residence` meets its contract: it is the definition, and no number on the way is large.
use Prim.Native.Nat.{ℕ, ◌+◌, ◌-◌, ◌*◌, ◌≤◌}
use native.Mathlib.Nat.{mul-le-mul, div-le_self}
use native.Mathlib.Omega.{arith}
use Rattle.figures.specs.Lanes.{most_modest}
use Rattle.figures.proofs.residences.row_residence.Goals as goal

product : (i : ℕ) {l : ℕ} → l ≤ most_modest → (1000000 - i) * l ≤ 1000000 * most_modest
product i h = mul-le-mul {n₁ = 1000000 - i} {n₂ = 1000000} (omega arith) h

pub overflow_mul-result-2 : goal.overflow_mul-result-2
overflow_mul-result-2 c = omega (arith, product c.args.l.idle c.requires.modest.largest)

pub overflow_add-result-2 : goal.overflow_add-result-2
overflow_add-result-2 c = omega (arith, product c.args.l.idle c.requires.modest.largest)

pub overflow_add-result-3 : goal.overflow_add-result-3
overflow_add-result-3 c =
    omega (arith, product c.args.l.idle c.requires.modest.largest, div-le_self (1000000 * (c.args.l.total - c.args.c) + (1000000 - c.args.l.idle) * c.args.l.largest) c.args.l.idle)
