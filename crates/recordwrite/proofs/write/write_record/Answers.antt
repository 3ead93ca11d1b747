-- `recordwrite::write::write_record` meets its contract: where there is room each part is stored over what the one before has left, and none changes how many bytes there are.
use Rattle.recordbytes.proofs.Laws.{plain}
use Rattle.std.proofs.Common.{rules}
use Rattle.recordwrite.proofs.Storage.{record_put}
use Rattle.recordwrite.proofs.write.write_record.Goals as goal

pub returns : goal.returns
returns c =
    let numbers = rw (plain {z = c.args.p.credita} (search rules), plain {z = c.args.p.creditb} (search rules)) at c.put_numbers.ensures in
    record_put c.args.out.now c.args.p c.if-out-lt-RECORD_SIZE.false c.put_table.ensures numbers c.put_queue.ensures c.put_queue-2.ensures c.put_queue-3.ensures c.put_lasts.ensures c.put_bounds.ensures c.put_wire.ensures
