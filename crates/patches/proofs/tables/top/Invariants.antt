-- `patches::tables::top` meets its contract: from the top down, a row that is not there is trimmed, and the first that is there ends it.
use Prim.Native.Nat.{◌≤◌}
use mathlib.Core.Path.{◌≡◌}
use lib.ListN.{take}
use Rattle.table.specs.Rows.{trimmed}
use Rattle.patches.proofs.tables.top.Given as goal

abbrev pub invariant-loop-i : goal.invariant-loop-i
invariant-loop-i l = (l.i ≤ l.n) × (l.n ≤ 32) × (trimmed (take l.n l.t.rows) ≡ trimmed (take l.i l.t.rows))
