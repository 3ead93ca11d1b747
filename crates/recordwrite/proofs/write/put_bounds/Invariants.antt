-- `recordwrite::write::put_bounds` meets its contract: after i turns the first i bounds are stored.
use mathlib.Core.Path.{◌≡◌}
use lib.ListN.{take}
use Rattle.words.specs.Words.{spread}
use Rattle.recordbytes.specs.Layout.{bounds_start, bound_width}
use Rattle.recordbytes.specs.Record.{bound_words}
use Rattle.recordwrite.proofs.write.put_bounds.Given as goal

abbrev pub invariant-loop-i : goal.invariant-loop-i
invariant-loop-i l = l.out ≡ spread bound_words bound_width bounds_start (take l.i l.bound-items) l.initial.out
