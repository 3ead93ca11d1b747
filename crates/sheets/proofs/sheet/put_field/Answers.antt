-- `sheets::sheet::put_field` meets its contract: a space, and a number behind it.
use native.Mathlib.Omega.{arith}
use Rattle.texts.proofs.Laws.{text_put, number_put, then}
use Rattle.sheets.proofs.sheet.put_field.Goals as goal

pub returns : goal.returns
returns c =
    let space = text_put (c.put-next.ensures.value, c.put-next.ensures.out_after) (omega arith) in
    then space (number_put _ (c.put_number.ensures.value, c.put_number.ensures.out_after) (omega arith))
