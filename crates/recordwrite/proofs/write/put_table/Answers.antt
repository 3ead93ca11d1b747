-- `recordwrite::write::put_table` meets its contract: the rows are stored over bytes that have the header already.
use Rattle.recordwrite.proofs.Storage.{table_put}
use Rattle.recordwrite.proofs.write.put_table.Goals as goal

pub returns : goal.returns
returns c = table_put c.args.t c.args.out.now c.put_head.ensures c.put_rows.ensures
