-- `offers::offers::joined` meets its contract, by the class.
use mathlib.Core.Path.{refl}
use Rattle.offers.proofs.offers.joined.Goals as goal

pub returns-in-A : goal.returns-in-A
returns-in-A c = rw c.in-A.is refl

pub returns-in-B : goal.returns-in-B
returns-in-B c = rw c.in-B.is refl
