-- `record::check::placed` meets its contract: a value of the type has its places.
use Rattle.machine.proofs.Places.{port_places}
use Rattle.record.proofs.check.placed.Goals as goal

pub returns : goal.returns
returns c = port_places c.args._p _ c.well_formed.0
