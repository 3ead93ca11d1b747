-- `filebytes::files::file_bounds` meets its contract: reading refuses first, and then opening.
use Rattle.codes.proofs.Laws.{misread, whole, handed_on}
use Rattle.filebytes.proofs.Refusals.{own_bounds}
use Rattle.filebytes.proofs.files.file_bounds.Goals as goal

pub returns-in_err-l : goal.returns-in_err-l
returns-in_err-l c = handed_on _ _ c.from_residual.result _ c.from_residual.ensures.1 (misread _ _ c.in_err-l.ensures)

pub returns-in_err-bounds : goal.returns-in_err-bounds
returns-in_err-bounds c =
    handed_on _ _ c.from_residual-in_err-bounds.result _ c.from_residual-in_err-bounds.ensures.1 (whole _ c.in_ok-l.ensures c.in_err-bounds.ensures)

pub returns : goal.returns
returns c = own_bounds _ c.in_ok-l.ensures c.in_ok-bounds.ensures
