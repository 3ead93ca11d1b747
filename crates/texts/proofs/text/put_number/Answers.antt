-- `texts::text::put_number` meets its contract: the fewest digits are those of the definition.
use mathlib.Core.Path.{◌∙◌}
use Rattle.texts.proofs.Texts.{spelled, same_text}
use Rattle.texts.proofs.text.put_number.Goals as goal

pub returns : goal.returns
returns c =
    let p = same_text _ _ (c.decimal-k.ensures.digits ∙ spelled c.args.n _ c.ranges.n.fits c.decimal-k.ensures.len) (c.put.ensures.value, c.put.ensures.out_after) in
    record { value = p.0; out_after = p.1 }
