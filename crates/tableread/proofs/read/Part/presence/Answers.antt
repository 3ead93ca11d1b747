-- `tableread::read::Part::presence` meets its contract, whether the field's bit stands or not.
use mathlib.Core.Path.{refl}
use Rattle.tableread.proofs.read.Part.presence.Goals as goal

pub returns-then-not-stands : goal.returns-then-not-stands
returns-then-not-stands c = rw c.if-not-stands.true refl

pub returns : goal.returns
returns c = rw c.if-not-stands.false c.check.ensures
