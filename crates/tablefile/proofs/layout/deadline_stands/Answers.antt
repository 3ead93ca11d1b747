-- `tablefile::layout::deadline_stands` meets its contract: the test is the definition's, with the deadline's weight.
use mathlib.Core.Path.{refl}
use Rattle.tablefile.specs.Layout.{bit_of}
use Rattle.tablefile.proofs.layout.deadline_stands.Goals as goal

pub returns : goal.returns
unfolding bit_of
returns c = refl
