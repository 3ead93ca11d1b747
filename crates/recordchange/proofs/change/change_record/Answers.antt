-- `recordchange::change::change_record` meets its contract: what is written is all that the call changes.
use native.Mathlib.Omega.{arith}
use Rattle.std.proofs.Common.{rules}
use Rattle.words.proofs.Laws.{bytes_each}
use Rattle.recordbytes.proofs.Laws.{long, plain}
use Rattle.recordchange.proofs.Changing.{all_changed, all_written}
use Rattle.recordchange.proofs.change.change_record.Goals as goal

pub returns-then-out-lt-RECORD_SIZE-clause-port : goal.returns-then-out-lt-RECORD_SIZE-clause-port
returns-then-out-lt-RECORD_SIZE-clause-port c = λ ok r. absurd (omega (arith, long c.args.out.now ok))

pub returns : goal.returns
returns c =
    let numbers = rw (plain {z = c.args.e.credita} (search rules), plain {z = c.args.e.creditb} (search rules)) at c.put_numbers.ensures in
    record { bytes = all_written c.args.out.now c.args.e c.if-out-lt-RECORD_SIZE.false numbers c.change_queues.ensures c.put_wire.ensures; port = λ ok r. all_changed c.args.out.now (bytes_each c.args.out.now (λ j. search rules)) ok c.args.e numbers c.change_queues.ensures c.put_wire.ensures r }
