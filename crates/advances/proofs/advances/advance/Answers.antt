-- `advances::advances::advance` meets its contract: what is judged is carried out, and a refused record is handed back.
use Rattle.machine.proofs.Effects.{keeps}
use Rattle.advances.proofs.Judged.{advanced}
use Rattle.advances.proofs.advances.advance.Goals as goal

pub returns-in-Ok : goal.returns-in-Ok
returns-in-Ok c = advanced (rw c.in-Ok.is at c.judge.ensures c.is_sound.ensures) (c.applied.ensures.became, c.applied.ensures.kept) c.passed.ensures

pub returns-in-Err : goal.returns-in-Err
returns-in-Err c = keeps (rw c.in-Err.is at c.judge.ensures c.is_sound.ensures)
