-- `runs::opened::begin` meets its contract: the port is the fresh one of the table that was read, refused or not.
use Rattle.runs.proofs.Files.{begins}
use Rattle.runs.proofs.opened.begin.Goals as goal

pub returns : goal.returns
returns c = begins _ c.try_open-o.ensures c.say-said.ensures
