-- `tableread::read::Part::deadline_absent` meets its contract: the test is the deadline's, at its place.
use mathlib.Core.Path.{◌∙◌}
use Rattle.tablefile.specs.Layout.{Deadline}
use Rattle.tableread.proofs.Faults.{present_told}
use Rattle.tableread.proofs.read.Part.deadline_absent.Goals as goal

pub returns : goal.returns
returns c = c.presence.ensures ∙ present_told Deadline c.args.self.bytes.now _ c.args.self.mapped c.deadline_stands.ensures c.deadline_place.ensures.value
