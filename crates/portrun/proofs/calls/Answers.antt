-- `portrun::calls` meets its contract: each turn reads on.
use Rattle.runs.proofs.Laws.{goes_on, then_on, none_read}
use Rattle.portrun.proofs.calls.Goals as goal

pub loop-init : goal.loop-init
loop-init c = none_read (goes_on _)

pub loop-preserved : goal.loop-preserved
loop-preserved c = then_on c.loop.invariant c.turn-run.ensures
