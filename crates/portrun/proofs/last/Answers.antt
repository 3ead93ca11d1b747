-- `portrun::last` meets its contract: the input's end is read as a line's end.
use Rattle.runs.proofs.Laws.{stops}
use Rattle.portrun.proofs.last.Goals as goal

pub returns : goal.returns
returns c = stops c.fed.ensures c.stopped.ensures
