-- `table::quotient::ceil_div` meets its contract: by 0 it is 0, and else the library's quotient rounded up.
use Rattle.std.proofs.Common.{sym, ◌∙◌, arith}
use Rattle.table.proofs.Division.{ceil_by_zero, ceil_is}
use Rattle.table.proofs.quotient.ceil_div.Goals as goal

pub returns-then-d-eq0 : goal.returns-then-d-eq0
returns-then-d-eq0 c = rw c.if-d-eq0.true (sym (ceil_by_zero _))

pub returns-else-d-eq0 : goal.returns-else-d-eq0
returns-else-d-eq0 c = c.div_ceil.ensures ∙ ceil_is _ _ (omega arith)
