-- `patches::tables::with_row` meets its contract: the places from the count up to the number are filled with rows of zeros.
use native.Mathlib.Omega.{arith}
use Rattle.table.proofs.Laws as table
use Rattle.patches.proofs.Places.{cleared_filled, row_joined}
use Rattle.patches.proofs.tables.with_row.Goals as goal

pub returns : goal.returns
returns c =
    let long = table.places c.args.t _ c.well_formed.0 in
    row_joined c.args.t _ c.args.k c.args.k _ c.args.row long c.requires.count_le_most_rows c.requires.k_lt_most_rows (omega arith) (cleared_filled c.args.t c.args.k c.min.result long c.requires.k_lt_most_rows c.min.ensures (c.fill.ensures.after (λ y e. e)) c.no_row.ensures) c.max.ensures
