-- `spacing::rows::apart_from` meets its contract: all others are tested.
use mathlib.Core.Path.{sym, ◌∙◌}
use Rattle.std.proofs.Common.{rules}
use Rattle.std.proofs.lemmas.Iterator.{YieldsList-from_slice}
use Rattle.std.proofs.lemmas.Iterator.Search.{all_from_yields_List}
use Rattle.machine.specs.Record.{apart}
use Rattle.spacing.proofs.Listed.{apart_from_list}
use Rattle.spacing.proofs.rows.apart_from.Goals as goal

pub returns : goal.returns
returns c =
    all_from_yields_List (apart c.args.period c.args.x) _ _ _ c.all.ensures.ran (YieldsList-from_slice c.args.others.now cc) (λ x b q k. search rules) ∙ sym (apart_from_list c.args.period c.args.x c.args.others.now)
