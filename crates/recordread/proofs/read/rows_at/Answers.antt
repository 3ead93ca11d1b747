-- `recordread::read::rows_at` meets its contract: after i turns the first i are in their places.
use mathlib.Core.Path.{◌≡◌}
use native.Mathlib.Omega.{arith}
use Rattle.table.specs.Limits.{most_rows}
use Rattle.table.specs.Rows.{no_row}
use Rattle.rowbytes.specs.Row.{row_width, row_at}
use Rattle.recordbytes.specs.Layout.{rows_start}
use Rattle.recordread.proofs.Named.{none_gathered, one_more}
use Rattle.recordread.proofs.read.rows_at.Goals as goal

pub loop-i-init : goal.loop-i-init
loop-i-init c = none_gathered no_row most_rows (row_at c.args.s.now) row_width rows_start c.no_row-rows.ensures

pub loop-i-preserved : goal.loop-i-preserved
loop-i-preserved c =
    one_more no_row most_rows (row_at c.args.s.now) row_width rows_start c.loop-i.i (omega arith) c.loop-i.invariant c.row_at.ensures

pub returns : goal.returns
returns c =
    let all : c.loop-i.i ≡ c.args.n = omega arith in
    rw all at c.loop-i.invariant
