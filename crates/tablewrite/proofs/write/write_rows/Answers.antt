-- `tablewrite::write::write_rows` meets its contract: what is written so far, with the rows left stored behind it, is the whole.
use mathlib.Core.Path.{refl, sym, ◌∙◌}
use native.Mathlib.Omega.{arith}
use Rattle.tablewrite.proofs.Sizes.{size_next, part_room, stored_length, stored_next, stored_end}
use Rattle.tablewrite.proofs.write.write_rows.Goals as goal

pub write_row-at-requires : goal.write_row-at-requires
write_row-at-requires c =
    part_room _ c.args.rows.now c.loop-row.row-index c.loop-row.at c.loop-row.out c.loop-row-test.true c.loop-row.invariant.0

pub loop-row-preserved : goal.loop-row-preserved
loop-row-preserved c =
    let next = size_next c.args.edition c.args.rows.now c.loop-row.row-index c.loop-row.at c.loop-row-test.true refl in
    let long = stored_length c.args.edition c.args.rows.now c.loop-row.row-index c.loop-row.at c.loop-row.out c.loop-row-test.true c.loop-row.invariant.0 c.write_row-at.ensures.out_after in
    let stored = stored_next c.args.edition c.args.rows.now c.loop-row.row-index c.loop-row.at c.loop-row.out c.loop-row-test.true c.loop-row.invariant.0 c.write_row-at.ensures.out_after in
    (omega (arith, next, long, c.write_row-at.ensures.value, c.loop-row.invariant.0), rw c.write_row-at.ensures.value (stored ∙ c.loop-row.invariant.1))

pub returns : goal.returns
returns c =
    sym (stored_end _ c.args.rows.now c.loop-row.row-index c.loop-row.at c.loop-row.out (omega arith)) ∙ c.loop-row.invariant.1
