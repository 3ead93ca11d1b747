-- The classes of a table: their slopes, and what each has of the rows.
use Rattle.std.specs.Prelude.{ℕ, ◌+◌, ◌-◌, max, List, [], ◌∷◌}
use Rattle.table.specs.declared.Class.{Class}
use Rattle.table.specs.declared.Class.TheVariants.{A, B}
use Rattle.table.specs.declared.Row.{Row}
use Rattle.table.specs.Limits.{D}
use Rattle.table.specs.Wire.{wire_size, size_of, share_of}
use Rattle.table.specs.Rows.{Contents}
-- What a row adds to a class: an empty number counts in no formula.
pub use Rattle.figures.specs.Parts.{in_class, counts, part}

-- The sum of f over the rows of a class.
unfoldable pub sum_over : Class → (Row → ℕ) → List Row → ℕ
sum_over c f [] = 0
sum_over c f (r ∷ rs) = part c f r + sum_over c f rs

-- The largest f over the rows of a class, 0 for an empty class.
unfoldable pub max_over : Class → (Row → ℕ) → List Row → ℕ
max_over c f [] = 0
max_over c f (r ∷ rs) = max (part c f r) (max_over c f rs)

-- How many rows a class has.
unfoldable pub members : Class → Contents → ℕ
members c t = sum_over c (λ r. 1) t.rows

-- LA, LB: the largest C in A and in B, 0 for an empty class.
unfoldable pub largest : Class → Contents → ℕ
largest c t = max_over c size_of t.rows

-- The sum of C over a class.
unfoldable pub total : Class → Contents → ℕ
total c t = sum_over c size_of t.rows

-- The sum of a class's shares.
unfoldable pub shares : Class → Contents → ℕ
shares c t = sum_over c share_of t.rows

-- I: a class's idle slope, in millionths of the port rate.
abbrev pub idle : Class → Contents → ℕ
idle A t = t.header.idlea
idle B t = t.header.idleb

-- S: a class's send slope, D − I.
abbrev pub send : Class → Contents → ℕ
send c t = D - idle c t

-- LC: the best-effort wire size.
unfoldable pub best_size : Contents → ℕ
best_size t = wire_size t.header.payload
