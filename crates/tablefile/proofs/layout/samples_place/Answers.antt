-- `tablefile::layout::samples_place` meets its contract: the samples stand behind the rate.
use native.Mathlib.Omega.{arith}
use Rattle.tablefile.specs.Layout.{Rate}
use Rattle.tablefile.proofs.Sizes.{behind_field}
use Rattle.tablefile.proofs.layout.samples_place.Goals as goal

pub returns : goal.returns
returns c = record { value = behind_field Rate _ c.rate_stands.ensures c.rate_place.ensures.value c.behind.ensures.value; small = omega arith }
