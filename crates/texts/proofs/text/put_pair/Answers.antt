-- `texts::text::put_pair` meets its contract: five texts, one behind the other.
use native.Mathlib.Omega.{arith}
use Rattle.texts.proofs.Texts.{text_put, number_put, then}
use Rattle.texts.proofs.text.put_pair.Goals as goal

pub returns : goal.returns
returns c =
    let p = text_put (c.put-start.ensures.value, c.put-start.ensures.out_after) (omega arith) in
    let q = number_put _ (c.put_number-first.ensures.value, c.put_number-first.ensures.out_after) (omega arith) in
    let r = then q (text_put (c.put-gap.ensures.value, c.put-gap.ensures.out_after) (omega arith)) in
    let s = then r (number_put _ (c.put_number-second.ensures.value, c.put_number-second.ensures.out_after) (omega arith)) in
    then p (then s (text_put (c.put.ensures.value, c.put.ensures.out_after) (omega arith)))
