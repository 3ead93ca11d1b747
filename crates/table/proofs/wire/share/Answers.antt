-- `table::wire::share` meets its contract: the quotient is the definition's.
use Prim.Native.Nat.{ℕ, ◌*◌, ◌≤◌}
use mathlib.Core.Path.{◌≡◌, refl, ◌∙◌}
use native.Mathlib.Omega.{arith}
use Rattle.table.specs.declared.Row.{Row}
use Rattle.table.specs.Limits.{D}
use Rattle.table.specs.Wire.{ceil_div, size_of, period_of, share_of}
use Rattle.table.proofs.Division.{ceil_le}
use Rattle.table.proofs.wire.share.Goals as goal

whole : (r : Row) {s p : ℕ} → s ≡ size_of r → p ≡ period_of r → ceil_div (D * s) p ≡ share_of r
unfolding share_of
whole r e f = rw (e, f) refl

pub returns : goal.returns
returns c =
    let small : c.ceil_div.result ≤ D * c.size.result = rw c.ceil_div.ensures (ceil_le _ _) in
    record { value = c.ceil_div.ensures ∙ whole _ c.size.ensures.value c.period.ensures.value; small = omega arith }
