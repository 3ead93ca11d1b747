-- `recordwrite::write::put_queue` meets its contract: after i turns the first i frames are stored behind the count.
use Prim.Native.Nat.{◌+◌, ◌*◌, min}
use mathlib.Core.Path.{◌≡◌, refl, ◌∙◌, ap}
use native.Mathlib.Omega.{arith}
use lib.ListN.{length}
use Rattle.words.proofs.Laws.{stored_length, spread_none, spread_next}
use Rattle.recordbytes.specs.Layout.{frame_width}
use Rattle.recordbytes.specs.Record.{frame_words}
use Rattle.std.proofs.Common.{rules}
use Rattle.recordwrite.proofs.Storage.{queue_put}
use Rattle.recordwrite.proofs.write.put_queue.Goals as goal

pub loop-i-init : goal.loop-i-init
loop-i-init g c = (refl, spread_none frame_words frame_width _ _)

pub loop-i-preserved : goal.loop-i-preserved
loop-i-preserved g c =
    let long : length c.args.q.frames ≡ g.row.N = search rules in (
      ap length c.put_frame.ensures ∙ stored_length c.loop-i.out (c.args.k + 1 + frame_width * c.loop-i.i) _ ∙ c.loop-i.invariant.0,
      spread_next frame_words frame_width (c.args.k + 1) c.args.q.frames _ c.loop-i.i _ (omega arith) c.loop-i.invariant.1 c.put_frame.ensures,
    )

pub shape_of-out : goal.shape_of-out
shape_of-out g c = c.loop-i.invariant.0 ∙ ap length c.put_word.ensures ∙ stored_length _ _ _

pub returns : goal.returns
returns g c =
    let all : c.loop-i.i ≡ min c.args.q.count g.row.N = omega arith in
    queue_put c.args.k g.row.N c.args.q.count c.args.q.frames c.args.out.now (search rules) c.put_word.ensures (rw all at c.loop-i.invariant.1)
