-- `portrun::turn` meets its contract: a newline at the input's end, the bytes that came, or none where reading fails.
use Rattle.runs.proofs.Laws.{goes_on, stops, none_read}
use Rattle.portrun.proofs.turn.Goals as goal

pub returns-in-Err : goal.returns-in-Err
returns-in-Err c = none_read (stops (goes_on _) c.stopped.ensures)
