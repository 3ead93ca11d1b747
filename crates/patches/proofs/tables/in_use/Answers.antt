-- `patches::tables::in_use` meets its contract, by the number and by the row at it.
use mathlib.Core.Path.{sym, ◌∙◌}
use borrow.Author.Tests.{le-ltb}
use Rattle.table.specs.Rows.{contents}
use Rattle.table.proofs.Laws as table
use Rattle.patches.proofs.Places.{used_there}
use Rattle.patches.proofs.tables.in_use.Goals as goal

pub returns-then-k-t : goal.returns-then-k-t
returns-then-k-t c =
    c.is_there.ensures ∙ sym (used_there c.args.t (table.places c.args.t _ c.well_formed.0) c.requires c.args.k c.if-k-t.true)

pub returns-else-k-t : goal.returns-else-k-t
returns-else-k-t c =
    le-ltb c.args.k c.args.t.count c.if-k-t.false ∙ sym (table.unused (contents c.args.t) c.args.k (rw (table.rows_length c.args.t) c.if-k-t.false))
