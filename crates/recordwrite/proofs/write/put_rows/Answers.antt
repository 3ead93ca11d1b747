-- `recordwrite::write::put_rows` meets its contract: after i turns the first i rows are stored.
use mathlib.Core.Path.{refl, ◌∙◌}
use native.Mathlib.Omega.{arith}
use lib.ListN.{take}
use lib.Seq.{take_all}
use Rattle.words.proofs.Laws.{spread_none, spread_next}
use Rattle.table.proofs.Laws.{places}
use Rattle.rowbytes.specs.Row.{row_width, row_words}
use Rattle.recordbytes.specs.Layout.{rows_start}
use Rattle.recordwrite.proofs.Storage.{rows_placed}
use Rattle.recordwrite.proofs.write.put_rows.Goals as goal

pub loop-i-init : goal.loop-i-init
loop-i-init c = spread_none row_words row_width rows_start _

pub loop-i-preserved : goal.loop-i-preserved
loop-i-preserved c = spread_next row_words row_width rows_start (take c.min.result c.args.t.rows) _ c.loop-i.i _ c.loop-i-test.true c.loop-i.invariant c.put_row.ensures

pub returns : goal.returns
returns c =
    c.loop-i.invariant ∙ rw (take_all c.loop-i.i (take c.min.result c.args.t.rows) (omega arith), c.min.ensures, rows_placed c.args.t (places c.args.t _ c.well_formed.1.0)) refl
