-- `tablefile::layout::payload_stands` meets its contract: the test is the definition's, with the payload's weight.
use mathlib.Core.Path.{refl}
use Rattle.tablefile.specs.Layout.{bit_of}
use Rattle.tablefile.proofs.layout.payload_stands.Goals as goal

pub returns : goal.returns
unfolding bit_of
returns c = refl
