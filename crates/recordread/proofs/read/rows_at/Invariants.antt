-- `recordread::read::rows_at` meets its contract: after i turns the first i are in their places.
use mathlib.Core.Path.{◌≡◌}
use Rattle.words.specs.Words.{gathered}
use Rattle.machine.specs.State.{placed}
use Rattle.table.specs.Limits.{most_rows}
use Rattle.table.specs.Rows.{no_row}
use Rattle.rowbytes.specs.Row.{row_width, row_at}
use Rattle.recordbytes.specs.Layout.{rows_start}
use Rattle.recordread.proofs.read.rows_at.Given as goal

abbrev pub invariant-loop-i : goal.invariant-loop-i
invariant-loop-i l = l.rows ≡ placed most_rows no_row (gathered (row_at l.s) row_width rows_start l.i)
