-- `turns::turn::carry` meets its contract: an effect is carried out, or a patch.
use Rattle.effects.proofs.Laws.{carries}
use Rattle.turns.proofs.turn.carry.Goals as goal

pub returns-in-Effect : goal.returns-in-Effect
returns-in-Effect c k m = rw c.in-Effect.is (carries (rw c.in-Effect.is at m) (c.apply.ensures.became, c.apply.ensures.kept))

pub returns-in-Patch : goal.returns-in-Patch
returns-in-Patch c k m = rw (c.in-Patch.is, c.carried.ensures) (rw c.in-Patch.is at m).0
