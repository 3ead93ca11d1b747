-- `recordread::read::port_of` meets its contract: each part is the one that its words name, and a record's counts are within the places.
use native.Mathlib.Omega.{arith}
use Rattle.recordbytes.proofs.Laws.{counts}
use Rattle.std.proofs.Common.{rules}
use Rattle.recordread.proofs.Named.{count_named, port_named}
use Rattle.recordread.proofs.read.port_of.Goals as goal

pub table_at-table-requires : goal.table_at-table-requires
table_at-table-requires c = (counts _ c.requires).rows

pub queue_at-requires : goal.queue_at-requires
queue_at-requires c = (omega arith, ((counts _ c.requires).a, omega arith))

pub queue_at-requires-2 : goal.queue_at-requires-2
queue_at-requires-2 c = (omega arith, ((counts _ c.requires).b, omega arith))

pub queue_at-requires-3 : goal.queue_at-requires-3
queue_at-requires-3 c = (omega arith, ((counts _ c.requires).best, omega arith))

pub lasts_at-requires : goal.lasts_at-requires
lasts_at-requires c = rw c.table_at-table.ensures (rw (count_named _) (counts _ c.requires).rows)

pub bounds_at-requires : goal.bounds_at-requires
bounds_at-requires c = rw c.table_at-table.ensures (rw (count_named _) (counts _ c.requires).rows)

pub returns : goal.returns
returns c = port_named _ c.table_at-table.ensures c.queue_at.ensures c.queue_at-2.ensures c.queue_at-3.ensures c.lasts_at.ensures c.bounds_at.ensures c.wire_at.ensures c.word.ensures (search rules) (search rules)
