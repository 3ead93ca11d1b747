-- `tableread::read::Part::judgement` meets its contract: where the field's bit stands its range is asked first, and then whether it states its default.
use mathlib.Core.Path.{refl, ◌∙◌}
use Rattle.tableread.proofs.Faults.{alone, stop, pass}
use Rattle.tableread.proofs.read.Part.judgement.Goals as goal

pub returns-then-not-stands : goal.returns-then-not-stands
returns-then-not-stands c = rw c.if-not-stands.true refl

pub returns-in_err-check : goal.returns-in_err-check
returns-in_err-check c = rw c.if-not-stands.false (stop c.from_residual.result _ c.from_residual.ensures.1 c.in_err-check.was c.check.ensures)

pub returns : goal.returns
returns c = rw c.if-not-stands.false (pass _ c.in_ok-check.was c.check.ensures (c.check-2.ensures ∙ alone _))
