-- `offers::offers::carried` meets its contract: an effect is carried out, and a refused record handed back.
use Rattle.machine.proofs.Effects.{keeps}
use Rattle.offers.proofs.Judged.{offered}
use Rattle.offers.proofs.offers.carried.Goals as goal

pub returns-in-Ok : goal.returns-in-Ok
returns-in-Ok c k o h m = offered o h (rw c.in-Ok.is at m) (c.applied.ensures.became, c.applied.ensures.kept)

pub returns-in-Err : goal.returns-in-Err
returns-in-Err c k o h m = keeps (rw c.in-Err.is at m)
