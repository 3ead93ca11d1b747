-- `tablefile::layout::rate_place` meets its contract: the rate stands behind the deadline.
use native.Mathlib.Omega.{arith}
use Rattle.tablefile.specs.Layout.{Deadline}
use Rattle.tablefile.proofs.Sizes.{behind_field}
use Rattle.tablefile.proofs.layout.rate_place.Goals as goal

pub returns : goal.returns
returns c = record { value = behind_field Deadline _ c.deadline_stands.ensures c.deadline_place.ensures.value c.behind.ensures.value; small = omega arith }
