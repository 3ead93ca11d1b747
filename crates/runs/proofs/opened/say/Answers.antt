-- `runs::opened::say` meets its contract: nothing is printed for a file that is accepted.
use mathlib.Core.Path.{ap}
use Rattle.runs.specs.Steps.{tried}
use Rattle.runs.proofs.Files.{by_outcome, accepted_said}
use Rattle.runs.proofs.opened.say.Goals as goal

pub returns-in-Ok : goal.returns-in-Ok
returns-in-Ok c = by_outcome (ap tried c.in-Ok.is) (accepted_said c.args.out.now)
