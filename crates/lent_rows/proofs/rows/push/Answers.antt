-- `lent_rows::rows::push` meets its contract: a row is stored where there is a place for it, and rows are counted up to 33.
use mathlib.Core.Path.{refl}
use native.Mathlib.Omega.{arith}
use Rattle.table.proofs.Laws.{places}
use Rattle.lent_rows.proofs.Loads.{stored}
use Rattle.lent_rows.proofs.rows.push.Goals as goal

pub returns-then-n-lt-ROWS : goal.returns-then-n-lt-ROWS
returns-then-n-lt-ROWS c =
    record { header = refl; count = omega (arith, c.if-n-lt-ROWS.true); rows = stored c.args.t _ (places c.args.t _ c.well_formed.0) }

pub returns : goal.returns
returns c = record { header = refl; count = omega (arith, c.if-n-lt-ROWS.false); rows = λ h. absurd (omega (arith, c.if-n-lt-ROWS.false, h)) }
