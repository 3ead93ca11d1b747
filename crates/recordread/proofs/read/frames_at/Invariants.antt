-- `recordread::read::frames_at` meets its contract: after i turns the first i are in their places.
use Prim.Native.Nat.{◌≤◌}
use mathlib.Core.Path.{◌≡◌}
use lib.ListN.{length}
use Rattle.words.specs.Words.{gathered}
use Rattle.machine.specs.State.{zero_frame, placed}
use Rattle.recordbytes.specs.Layout.{frame_width}
use Rattle.recordbytes.specs.Record.{frame_at}
use Rattle.recordread.proofs.read.frames_at.Given as goal

abbrev pub invariant-loop-i : goal.invariant-loop-i
invariant-loop-i g l = (l.i ≤ l.n) × (length l.frames ≡ g.row.N) × (l.frames ≡ placed g.row.N zero_frame (gathered (frame_at l.s) frame_width l.k l.i))
