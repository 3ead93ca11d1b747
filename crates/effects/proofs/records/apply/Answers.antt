-- `effects::records::apply` meets its contract: the change, if there is one, and then the effect's clock, credits and wire.
use Rattle.effects.proofs.Laws.{Carried, carried_none, carried_some}
use Rattle.effects.proofs.records.apply.Goals as goal

pub returns-in-None : goal.returns-in-None
returns-in-None c = let done : Carried c.args.p.now c.args.e c.settle.new.p = rw c.settle.ensures (carried_none c.args.p.now c.args.e c.in-None.is) in record { became = done.0; kept = done.1 }

pub returns-in-Some : goal.returns-in-Some
returns-in-Some c =
    let done : Carried c.args.p.now c.args.e c.settle-in-Some.new.p = rw c.settle-in-Some.ensures (carried_some c.args.p.now c.args.e c.in-Some.is c.change.ensures) in
    record { became = done.0; kept = done.1 }
