-- `advances::numbers::hot` meets its contract, by what is on the wire.
use Prim.Native.Nat.{ℕ}
use mathlib.Core.Path.{◌≡◌}
use Rattle.table.specs.Rows.{contents}
use Rattle.machine.specs.declared.Frame.{Frame}
use Rattle.machine.specs.declared.Wire.TheVariants.{Free, Sending}
use Rattle.machine.specs.declared.Port.{Port}
use Rattle.machine.specs.State.{view}
use Rattle.machine.specs.Time.{owner}
use Rattle.bytetime.specs.declared.Sender.{Sender}
use Rattle.bytetime.specs.declared.Sender.TheVariants.{Nobody}
use Rattle.bytetime.specs.declared.Hot.{Hot}
use Rattle.bytetime.specs.Ports.{sender_by, hot_of}
use Rattle.advances.specs.Steps.{hot_with}
use Rattle.advances.proofs.Waiting.{some_is}
use Rattle.advances.proofs.numbers.hot.Goals as goal

on_free_lem : (p : Port) (h : Hot) → p.wire ≡ Free → h ≡ hot_with p Nobody 0 → h ≡ hot_of (view p)
unfolding view hot_of
on_free_lem p h e f = rw (e, ← some_is p.a.count p.a.frames, ← some_is p.b.count p.b.frames, ← some_is p.best.count p.best.frames) f

on-sending : (p : Port) (h : Hot) (w : Sender) (f : Frame) (left : ℕ) → p.wire ≡ Sending f left → w ≡ sender_by (owner (contents p.table) f) → h ≡ hot_with p w left → h ≡ hot_of (view p)
unfolding view hot_of
on-sending p h w f left e o g = rw (e, ← some_is p.a.count p.a.frames, ← some_is p.b.count p.b.frames, ← some_is p.best.count p.best.frames, ← o) g

pub returns-in-Free : goal.returns-in-Free
returns-in-Free c = on_free_lem _ _ c.in-Free.is c.hot_with.ensures

pub returns-in-Sending : goal.returns-in-Sending
returns-in-Sending c =
    on-sending _ _ c.sender.result c.in-Sending.f c.in-Sending.left c.in-Sending.is c.sender.ensures c.hot_with-in-Sending.ensures
