-- `sheets::sheet::put_row` meets its contract: six texts, one behind the other.
use native.Mathlib.Omega.{arith}
use Rattle.texts.proofs.Laws.{text_put, then}
use Rattle.sheets.proofs.Lines.{row_text}
use Rattle.sheets.proofs.sheet.put_row.Goals as goal

pub returns : goal.returns
returns c =
    let fields = then (then (then (then c.put_name-name.ensures c.put_field-wire.ensures) c.put_field-first.ensures) c.put_field-second.ensures) c.put_field-third.ensures in
    rw (row_text c.args.number c.args.row c.args.bound c.size.ensures.value c.period.ensures.value) (then fields (text_put (c.put.ensures.value, c.put.ensures.out_after) (omega arith)))
