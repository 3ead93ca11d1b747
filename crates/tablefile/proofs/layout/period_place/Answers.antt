-- `tablefile::layout::period_place` meets its contract: the period stands behind the payload.
use mathlib.Core.Path.{refl}
use native.Mathlib.Omega.{arith}
use Rattle.tablefile.specs.Layout.{Payload}
use Rattle.tablefile.proofs.Sizes.{behind_field}
use Rattle.tablefile.proofs.layout.period_place.Goals as goal

pub returns : goal.returns
returns c = record { value = behind_field Payload _ c.payload_stands.ensures refl c.behind.ensures.value; small = omega arith }
