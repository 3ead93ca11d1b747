-- `offers::offers::offer` meets its contract: what is judged is carried out.
use mathlib.Core.Path.{refl}
use Rattle.machine.specs.State.{view}
use Rattle.machine.specs.Calls.{offer, offer_check}
use Rattle.offers.proofs.offers.offer.Goals as goal

pub returns : goal.returns
returns c =
    c.carried.ensures (offer c.args.row c.args.payload) (offer_check (view c.args.p) c.args.row c.args.payload) refl (c.judge.ensures c.is_sound.ensures)
