-- `offers::offers::offer_best` meets its contract: what is judged is carried out.
use mathlib.Core.Path.{refl}
use Rattle.machine.specs.State.{view}
use Rattle.machine.specs.Calls.{offer_best, best_check}
use Rattle.offers.proofs.offers.offer_best.Goals as goal

pub returns : goal.returns
returns c =
    c.carried.ensures (offer_best c.args.payload) (best_check (view c.args.p) c.args.payload) refl (c.judge_best.ensures c.is_sound.ensures)
