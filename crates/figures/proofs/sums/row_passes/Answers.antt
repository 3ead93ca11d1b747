-- `figures::sums::row_passes` meets its contract: an empty number is out of range, and passes where numbers may be empty.
use mathlib.Core.Bool.{Bool, true, false}
use mathlib.Core.Path.{◌≡◌, refl, sym, ◌∙◌}
use Rattle.table.specs.declared.Row.{Row}
use Rattle.table.specs.Rows.{is_there}
use Rattle.table.specs.Ranges.{pace_ok, row_ok}
use Rattle.table.proofs.Laws.{not_there}
use Rattle.figures.specs.Parts.{passes_by}
use Rattle.figures.proofs.sums.row_passes.Goals as goal

empty : (gaps : Bool) (r : Row) → is_there r ≡ false → gaps ≡ passes_by gaps r
unfolding row_ok pace_ok
empty false r e = rw (not_there r e) refl
empty true r e = rw e refl

pub returns-else-is_there : goal.returns-else-is_there
returns-else-is_there c = empty c.args.gaps c.args.row (sym c.is_there.ensures ∙ c.if-is_there.false)
