-- `spacing::rows::on_wire` meets its contract, by what is on the wire.
use Prim.Native.Nat.{ℕ}
use mathlib.Core.List.{[], ◌∷◌}
use mathlib.Core.Path.{◌≡◌, sym}
use native.Mathlib.Omega.{arith}
use Rattle.machine.specs.declared.Frame.{Frame}
use Rattle.machine.specs.declared.Wire.{Wire}
use Rattle.machine.specs.declared.Wire.TheVariants.{Sending}
use Rattle.machine.specs.Record.{taken_in, sending}
use Rattle.spacing.proofs.Listed.{taken_one, taken_other}
use Rattle.spacing.proofs.rows.on_wire.Goals as goal

module _ (k : ℕ) (f : Frame) (left : ℕ) {w : Wire} (e : w ≡ Sending f left) where
  on_row : f.source ≡ k → f.taken ∷ [] ≡ taken_in k (sending w)
  on_row s = rw e (sym (taken_one k f s))

  on-other : (f.source ≡ k → ⊥) → [] ≡ taken_in k (sending w)
  on-other s = rw e (sym (taken_other k f s))

pub returns-then-f-k : goal.returns-then-f-k
returns-then-f-k c =
    record { result_value = on_row _ c.in-Sending.f c.in-Sending.field-1 c.in-Sending.is c.if-f-k.true; few = omega arith }

pub returns-else-f-k : goal.returns-else-f-k
returns-else-f-k c =
    record { result_value = on-other _ c.in-Sending.f c.in-Sending.field-1 c.in-Sending.is c.if-f-k.false; few = omega arith }
