-- `recordwrite::write::put_rows` meets its contract: after i turns the first i rows are stored.
use mathlib.Core.Path.{◌≡◌}
use lib.ListN.{take}
use Rattle.words.specs.Words.{spread}
use Rattle.rowbytes.specs.Row.{row_width, row_words}
use Rattle.recordbytes.specs.Layout.{rows_start}
use Rattle.recordwrite.proofs.write.put_rows.Given as goal

abbrev pub invariant-loop-i : goal.invariant-loop-i
invariant-loop-i l = l.out ≡ spread row_words row_width rows_start (take l.i l.row-items) l.initial.out
