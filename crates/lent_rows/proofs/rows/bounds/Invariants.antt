-- The table has the first i rows of the list.
use Rattle.std.proofs.Common.{◌≤◌}
use Rattle.lent_rows.proofs.Loads.{Loaded}
use Rattle.lent_rows.proofs.rows.bounds.Given as goal

abbrev pub invariant-loop-i : goal.invariant-loop-i
invariant-loop-i l = (l.i ≤ l.n) × Loaded l.fn.header l.rows l.i l.t
