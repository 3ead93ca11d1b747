-- `recordwrite::write::put_lasts` meets its contract: after i turns the instants of the first i numbers are stored, if they are in use.
use mathlib.Core.Path.{◌≡◌}
use lib.ListN.{length, take}
use Rattle.words.specs.Words.{spread}
use Rattle.recordbytes.specs.Layout.{last_start, last_width}
use Rattle.recordbytes.specs.Record.{marked_words}
use Rattle.recordwrite.proofs.Storage.{marks}
use Rattle.recordwrite.proofs.write.put_lasts.Given as goal

abbrev pub invariant-loop-i : goal.invariant-loop-i
invariant-loop-i l = (length l.out ≡ length l.initial.out) × (l.out ≡ spread marked_words last_width last_start (take l.i (marks l.t l.lasts)) l.initial.out)
