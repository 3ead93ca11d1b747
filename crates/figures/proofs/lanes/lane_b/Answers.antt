-- `figures::lanes::lane_b` meets its contract: it is the definition, and no number on the way is large.
use Prim.Native.Nat.{ℕ, ◌-◌, ◌*◌, ◌≤◌}
use mathlib.Core.Path.{◌≡◌}
use native.Mathlib.Nat.{mul-le-mul}
use native.Mathlib.Omega.{arith}
use borrow.Author.Rules.{rules}
use Rattle.table.specs.Limits.{D, most_slope, any_size}
use Rattle.table.proofs.Laws.{ceil_le}
use Rattle.figures.proofs.lanes.lane_b.Goals as goal

product : {i l : ℕ} → i ≤ most_slope → l ≤ any_size → i * l ≤ most_slope * any_size
product h g = mul-le-mul h g

pub overflow_mul-ia : goal.overflow_mul-ia
overflow_mul-ia c = omega (arith, product {i = c.from-ia.result} {l = c.args.b.largest} (omega arith) (omega arith))

pub overflow_add-result : goal.overflow_add-result
overflow_add-result c = omega (arith, ceil_le c.max-saved.result (D - c.from-ia.result), product {i = c.from-ia.result} {l = c.args.b.largest} (omega arith) (omega arith))

pub returns : goal.returns
returns c =
    let e : c.from-ia.result ≡ c.args.h.idlea = search rules in
    record { value = rw (← e) (search rules); modest = omega (arith, ceil_le c.max-saved.result (D - c.from-ia.result), product {i = c.from-ia.result} {l = c.args.b.largest} (omega arith) (omega arith)) }
