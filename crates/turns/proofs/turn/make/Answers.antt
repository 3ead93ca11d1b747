-- `turns::turn::make` meets its contract: an effect that is judged is carried out.
use mathlib.Core.Path.{sym, ◌∙◌}
use Rattle.effects.proofs.Laws.{carries}
use Rattle.turns.proofs.Laws.{plain_is}
use Rattle.turns.proofs.turn.make.Goals as goal

pub returns : goal.returns
returns c w =
    let same = plain_is c.args.asked (sym c.is_patch.ensures ∙ c.if-is_patch.false) in
    carries (rw (same, c.in_ok-e.was) at (c.effect.ensures w)) (c.apply.ensures.became, c.apply.ensures.kept)
