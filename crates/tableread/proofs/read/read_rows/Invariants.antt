-- `tableread::read::read_rows` meets its contract: after i turns the first i rows have passed and stand in the table, and the next one starts at the place.
use Rattle.tableread.proofs.Turns.{Filling}
use Rattle.tableread.proofs.read.read_rows.Given as goal

abbrev pub invariant-loop-i : goal.invariant-loop-i
invariant-loop-i l = Filling l.edition l.s l.table l.at l.i
