-- `portrun::written` meets its contract: the run goes on, or it stops where it stands.
use Rattle.runs.proofs.Laws.{goes_on, stops}
use Rattle.portrun.proofs.written.Goals as goal

pub returns-in-Err : goal.returns-in-Err
returns-in-Err c = stops (goes_on _) c.stopped.ensures
