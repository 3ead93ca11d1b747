-- A row by itself: whether it passes, what it adds to a class, and what is worked out from its residence.
use Rattle.std.specs.Prelude.{ℕ, ◌-◌, Bool, true, false, cond, ◌&&◌}
use Rattle.table.specs.declared.Class.{Class}
use Rattle.table.specs.declared.Row.{Row}
use Rattle.table.specs.Limits.{left_at_report}
use Rattle.table.specs.Rows.{is_there, same_class}
use Rattle.table.specs.Ranges.{row_ok}

-- A row is in a class.
abbrev pub in_class : Class → Row → Bool
in_class c r = same_class c r.class

-- A row counts in a class if it is in the class and there: an empty number counts in no formula.
abbrev pub counts : Class → Row → Bool
counts c r = in_class c r && is_there r

-- What a row adds to a class: its f if it counts in the class, else nothing.
abbrev pub part : Class → (Row → ℕ) → Row → ℕ
part c f r = cond (counts c r) (f r) 0

-- A figure of the row at a number, 0 at an empty one.
abbrev pub if_there : (Row → ℕ) → Row → ℕ
if_there f r = cond (is_there r) (f r) 0

-- From a residence to a bound: less the bytes that are left at the report.
abbrev pub until_report : ℕ → ℕ
until_report n = n - left_at_report

-- A row in range; where numbers may be empty, an empty one passes too.
abbrev pub row_passes : Row → Bool
row_passes r = cond (is_there r) (row_ok r) true

abbrev pub passes_by : Bool → Row → Bool
passes_by false = row_ok
passes_by true = row_passes
