-- `recordread::read::bounds_at` meets its contract: after i turns the first i are in their places.
use mathlib.Core.Path.{◌≡◌}
use Rattle.words.specs.Words.{word_at, gathered}
use Rattle.machine.specs.State.{placed}
use Rattle.table.specs.Limits.{most_rows}
use Rattle.recordbytes.specs.Layout.{bounds_start, bound_width}
use Rattle.recordread.proofs.read.bounds_at.Given as goal

abbrev pub invariant-loop-i : goal.invariant-loop-i
invariant-loop-i l = l.bounds ≡ placed most_rows 0 (gathered (word_at l.s) bound_width bounds_start l.i)
