-- `sheets::sheet::put_sheet` meets its contract: the text is spelled, and put as a text is.
use Rattle.texts.proofs.Laws.{same_text, whole_text, whole_length}
use Rattle.sheets.proofs.sheet.put_sheet.Goals as goal

pub slice_bounds-put-end : goal.slice_bounds-put-end
slice_bounds-put-end c = whole_length c.put_text-n.ensures

pub returns : goal.returns
returns c =
    let p = same_text _ _ (whole_text c.put_text-n.ensures) (c.put.ensures.value, c.put.ensures.out_after) in
    record { value = p.0; out_after = p.1 }
