-- A run may advance its record where it lies: the lent advance is one more call of it.
use Rattle.std.specs.Prelude.{Result}
use Prim.Native.Nat.{ℕ}
use mathlib.Core.List.{List, ◌∷◌}
use Rattle.table.specs.declared.Table.{Table}
use Rattle.machine.specs.declared.Denial.{Denial}
use Rattle.machine.specs.declared.Passed.{Passed}
use Rattle.machine.specs.declared.Port.{Port}
use Rattle.machine.specs.Calls.{advance, advance_answer}
use Rattle.machine.specs.Run.{Event, event, Run, called}
use Rattle.lent_port.specs.Lent.{LentAdvanced}

pub step : {t : Table} {es : List Event} {p q : Port} {n : ℕ} (r : Result Passed Denial) → Run t es p → LentAdvanced p n r q → Run t (event (advance n) (advance_answer r) ∷ es) q
step r run given = called run given
