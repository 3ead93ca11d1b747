-- `tablefile::layout::rate_stands` meets its contract: the test is the definition's, with the weight that rate and samples share.
use mathlib.Core.Path.{refl}
use Rattle.tablefile.specs.Layout.{bit_of}
use Rattle.tablefile.proofs.layout.rate_stands.Goals as goal

pub returns : goal.returns
unfolding bit_of
returns c = refl
