-- `patches::tables::without_row` meets its contract: the number is cleared, and the count is that of the rows up to the last that is there.
use Rattle.table.proofs.Laws as table
use Rattle.patches.proofs.Places.{row_left}
use Rattle.patches.proofs.tables.without_row.Goals as goal

pub returns : goal.returns
returns c =
    row_left c.args.t c.args.k _ _ (table.places c.args.t _ c.well_formed.0) c.requires.count_le_most_rows c.no_row.ensures c.top.ensures
