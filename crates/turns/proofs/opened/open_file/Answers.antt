-- `turns::opened::open_file` meets its contract: what reading refuses comes first, then what opening does, and else the port is the fresh one of the table that was read.
use Rattle.codes.proofs.Laws.{misread}
use Rattle.turns.proofs.Turning.{not_opened, table_refused, opened_file}
use Rattle.turns.proofs.opened.open_file.Goals as goal

pub returns-in_err-l : goal.returns-in_err-l
returns-in_err-l c = not_opened _ c.from_residual.result _ c.from_residual.ensures.1 (misread _ _ c.in_err-l.ensures)

pub returns-in_err-o : goal.returns-in_err-o
returns-in_err-o c =
    not_opened _ c.from_residual-in_err-o.result _ c.from_residual-in_err-o.ensures.1 (table_refused _ c.in_ok-l.ensures c.open-o.ensures _ c.in_err-o.was)

pub returns : goal.returns
returns c = opened_file _ c.in_ok-l.ensures c.open-o.ensures c.in_ok-o.was
