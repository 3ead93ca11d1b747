-- `runs::opened::try_open` meets its contract: the port is the fresh one of the table that was read, refused or not.
use Rattle.runs.proofs.Files.{misread_tried, whole_tried, told_on}
use Rattle.runs.proofs.opened.try_open.Goals as goal

pub returns-in-Ok : goal.returns-in-Ok
returns-in-Ok c = whole_tried _ c.in-Ok.ensures c.open-o.ensures _ (told_on c.open-o.result.answer c.map_err.result c.map_err.ensures.cases)

pub returns-in-Err : goal.returns-in-Err
returns-in-Err c = misread_tried _ _ c.in-Err.ensures c.no_table.ensures c.open.ensures
