-- `lent_rows::rows::empty` meets its contract: every place holds the row of zeros.
use mathlib.Core.Path.{refl}
use Rattle.lent_rows.proofs.rows.empty.Goals as goal

pub returns : goal.returns
returns c = rw c.no_row-none.ensures refl
