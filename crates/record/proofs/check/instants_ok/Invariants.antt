-- `record::check::instants_ok` meets its contract: the instants from i on decide.
use Prim.Native.Nat.{◌≤◌}
use mathlib.Core.Path.{◌≡◌}
use lib.ListN.{take, drop}
use Rattle.machine.specs.Record.{none_after}
use Rattle.record.specs.Steps.{instants_by}
use Rattle.record.proofs.check.instants_ok.Given as goal

abbrev pub invariant-loop-i : goal.invariant-loop-i
invariant-loop-i l = (l.i ≤ l.rows) × (none_after l.clock (drop l.i (instants_by (take l.rows l.made) l.last)) ≡ none_after l.clock (instants_by (take l.rows l.made) l.last))
