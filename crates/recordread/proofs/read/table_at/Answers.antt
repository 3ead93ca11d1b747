-- `recordread::read::table_at` meets its contract: the header's values, the rows and their count are those that their words name.
use Rattle.recordread.proofs.Named.{table_named}
use Rattle.recordread.proofs.read.table_at.Goals as goal

pub returns : goal.returns
returns c = table_named _ c.word-count.ensures c.rows_at.ensures c.u32_at.ensures c.u32_at-2.ensures c.u16_at.ensures
