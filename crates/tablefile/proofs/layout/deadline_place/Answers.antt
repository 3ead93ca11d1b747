-- `tablefile::layout::deadline_place` meets its contract: the deadline stands behind the period.
use native.Mathlib.Omega.{arith}
use Rattle.tablefile.specs.Layout.{Period}
use Rattle.tablefile.proofs.Sizes.{behind_field}
use Rattle.tablefile.proofs.layout.deadline_place.Goals as goal

pub returns : goal.returns
returns c = record { value = behind_field Period _ c.period_stands.ensures c.period_place.ensures.value c.behind.ensures.value; small = omega arith }
