-- `frames::tests::wire_ok` meets its contract, by what is on the wire.
use Prim.Native.Nat.{ℕ}
use mathlib.Core.Bool.{Bool}
use mathlib.Core.Path.{◌≡◌}
use Rattle.machine.specs.declared.Frame.{Frame}
use Rattle.machine.specs.declared.Wire.{Wire}
use Rattle.machine.specs.declared.Wire.TheVariants.{Sending}
use Rattle.machine.specs.Record.{on_sending}
use Rattle.frames.proofs.tests.wire_ok.Goals as goal

on-sending : (ok : Frame → ℕ → Bool) (f : Frame) (left : ℕ) {w : Wire} {r : Bool} → w ≡ Sending f left → r ≡ ok f left → r ≡ on_sending ok w
on-sending ok f left e p = rw e p

pub returns-in-Sending : goal.returns-in-Sending
returns-in-Sending c =
    on-sending _ c.in-Sending.f c.in-Sending.left c.in-Sending.is c.sending_ok.ensures
