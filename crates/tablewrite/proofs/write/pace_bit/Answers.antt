-- `tablewrite::write::pace_bit` meets its contract, by the case of the row's pace.
use native.Mathlib.Omega.{arith}
use Rattle.tablewrite.proofs.Fields.{period_stated, rate_stated}
use Rattle.tablewrite.proofs.write.pace_bit.Goals as goal

pub returns-in-Period : goal.returns-in-Period
returns-in-Period c = record { value = period_stated _ _ c.in-Period.is c.default_period.ensures c.bit_for.ensures.value; small = omega arith }

pub returns-in-Rated : goal.returns-in-Rated
returns-in-Rated c = record { value = rate_stated _ _ c.in-Rated.is; small = omega arith }
