-- `spacing::rows::all_apart` meets its contract: the instants from i on decide.
use mathlib.Core.Path.{◌≡◌}
use lib.ListN.{drop}
use Rattle.machine.specs.Record.{spaced}
use Rattle.spacing.proofs.rows.all_apart.Given as goal

abbrev pub invariant-loop-i : goal.invariant-loop-i
invariant-loop-i l = spaced l.period (drop l.i l.xs) ≡ spaced l.period l.xs
