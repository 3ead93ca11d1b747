-- `patches::patches::patched` meets its contract: a patch is carried out, and a refused record handed back.
use Rattle.machine.proofs.Effects.{keeps}
use Rattle.patches.proofs.patches.patched.Goals as goal

pub returns-in-Ok : goal.returns-in-Ok
returns-in-Ok c k m = rw c.carried.ensures (rw c.in-Ok.is at m)

pub returns-in-Err : goal.returns-in-Err
returns-in-Err c k m = keeps (rw c.in-Err.is at m)
