-- `recordread::read::frames_at` meets its contract: after i turns the first i are in their places.
use mathlib.Core.Path.{◌≡◌, refl, ◌∙◌}
use native.Mathlib.Omega.{arith}
use lib.ListN.{length-set, length-replicate}
use Rattle.machine.specs.State.{zero_frame}
use Rattle.recordbytes.specs.Layout.{frame_width}
use Rattle.recordbytes.specs.Record.{frame_at}
use Rattle.recordread.proofs.Named.{none_gathered, one_more}
use Rattle.recordread.proofs.read.frames_at.Goals as goal

pub loop-i-init : goal.loop-i-init
loop-i-init g c = (omega arith, rw length-replicate refl, none_gathered zero_frame g.row.N (frame_at c.args.s.now) frame_width c.args.k c.zero_frame-frames.ensures)

pub loop-i-preserved : goal.loop-i-preserved
loop-i-preserved g c =
    (omega arith, length-set c.loop-i.frames c.loop-i.i c.frame_at.result ∙ c.loop-i.invariant.1, one_more zero_frame g.row.N (frame_at c.args.s.now) frame_width c.args.k c.loop-i.i (omega arith) c.loop-i.invariant.2 c.frame_at.ensures)

pub returns : goal.returns
returns g c =
    let all : c.loop-i.i ≡ c.args.n = omega arith in
    rw all at c.loop-i.invariant.2
