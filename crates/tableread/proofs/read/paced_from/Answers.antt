-- `tableread::read::paced_from` meets its contract: payload and pace are filled in one by one, each into the row that has those before it.
use Rattle.tableread.proofs.Values.{paced_built}
use Rattle.tableread.proofs.read.paced_from.Goals as goal

pub returns : goal.returns
returns c =
    paced_built _ _ c.byte-map.ensures c.class_of.ensures c.tagged_of.ensures c.no_row.ensures c.with_payload-first.ensures c.pace_from.ensures
