-- `portsheet::main` is safe: a sheet stays within its buffer.
use mathlib.Core.Path.{sym}
use native.Mathlib.Omega.{arith}
use lib.Seq.{length-take-le}
use Rattle.sheets.proofs.Room.{whole_sheet}
use Rattle.portsheet.proofs.main.Goals as goal

pub slice_bounds-out-end : goal.slice_bounds-out-end
slice_bounds-out-end c = omega (arith, (whole_sheet _ _ (omega arith) (c.put_sheet-used.ensures.value, c.put_sheet-used.ensures.out_after)).0)

pub slice_bounds-write_all-end : goal.slice_bounds-write_all-end
slice_bounds-write_all-end c = sym (length-take-le _ _ (omega (arith, (whole_sheet _ _ (omega arith) (c.put_sheet-used.ensures.value, c.put_sheet-used.ensures.out_after)).0)))
