-- `recordchange::change::leave` meets its contract: after i turns the first i frames behind the head stand a place further up.
use Prim.Native.Nat.{◌+◌}
use mathlib.Core.Path.{◌≡◌}
use lib.ListN.{take}
use Rattle.words.specs.Words.{spread}
use Rattle.recordbytes.specs.Layout.{frame_width}
use Rattle.recordbytes.specs.Record.{frame_words}
use Rattle.recordchange.proofs.Leaving.{moved}
use Rattle.recordchange.proofs.change.leave.Given as goal

abbrev pub invariant-loop-i : goal.invariant-loop-i
invariant-loop-i l = l.out ≡ spread frame_words frame_width (l.k + 1) (take l.i (moved l.initial.out l.k l.rest)) l.initial.out
