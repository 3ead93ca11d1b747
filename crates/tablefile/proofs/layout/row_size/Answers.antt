-- `tablefile::layout::row_size` meets its contract: the row ends behind the samples, whose bit is the rate's.
use mathlib.Core.Path.{◌∙◌}
use native.Mathlib.Omega.{arith}
use Rattle.tablefile.specs.Layout.{Samples}
use Rattle.tablefile.proofs.Sizes.{bit_shared, behind_field}
use Rattle.tablefile.proofs.layout.row_size.Goals as goal

pub returns : goal.returns
returns c = record { value = behind_field Samples _ (c.rate_stands.ensures ∙ bit_shared _) c.samples_place.ensures.value c.behind.ensures.value; small = omega arith }
