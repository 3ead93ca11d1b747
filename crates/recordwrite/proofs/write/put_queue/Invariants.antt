-- `recordwrite::write::put_queue` meets its contract: after i turns the first i frames are stored behind the count.
use Prim.Native.Nat.{◌+◌}
use mathlib.Core.Path.{◌≡◌}
use lib.ListN.{length, take}
use Rattle.words.specs.Words.{spread}
use Rattle.recordbytes.specs.Layout.{frame_width}
use Rattle.recordbytes.specs.Record.{frame_words}
use Rattle.recordwrite.proofs.write.put_queue.Given as goal

abbrev pub invariant-loop-i : goal.invariant-loop-i
invariant-loop-i g l = (length l.out ≡ length l.initial.out) × (l.out ≡ spread frame_words frame_width (l.k + 1) (take l.i l.q.frames) l.initial.out)
