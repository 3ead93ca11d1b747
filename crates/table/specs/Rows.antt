-- A table by its parts: a header and a list of rows.
use Rattle.std.specs.Prelude.{ℕ, zero, suc, ◌-◌, ◌<◌, Bool, true, false, not, cond, ◌&&◌, List, [], ◌∷◌, ◌++◌, ◌≡◌, ltb, eqb, length, get_or, set, take, replicate}
use Rattle.table.specs.declared.Class.{Class}
use Rattle.table.specs.declared.Class.TheVariants.{A, B}
use Rattle.table.specs.declared.Pace.{Pace}
use Rattle.table.specs.declared.Pace.TheVariants.{Period, Rated}
use Rattle.table.specs.declared.Row.{Row}
use Rattle.table.specs.declared.Header.{Header}
use Rattle.table.specs.declared.Table.{Table}

-- Two classes are the same.
abbrev pub same_class : Class → Class → Bool
same_class A A = true
same_class A B = false
same_class B A = false
same_class B B = true

-- A row of zeros: an empty number has it, and an unused place after reading.
abbrev pub no_row : Row
no_row = record { class = A; tagged = false; payload = 0; pace = Period 0; deadline = 0 }

-- Zeros mean empty: whether a row is there.
abbrev pub is_zero : Pace → Bool
is_zero (Period p) = eqb p 0
is_zero (Rated samples rate) = false

unfoldable pub is_there : Row → Bool
is_there r = not (((same_class A r.class && not r.tagged) && eqb r.payload 0) && (is_zero r.pace && eqb r.deadline 0))

-- What a table says: I of A and of B and the best-effort payload, and its rows, numbered from 0.
pub record Contents : Type 0 where
  pub header : Header
  pub rows : List Row

-- The rows of a table record: as many of its 32 places as its count says. A count above the places stands for rows of zeros behind them.
unfoldable pub rows_of : Table → List Row
rows_of t = take t.count t.rows ++ replicate (t.count - length t.rows) no_row

abbrev pub contents : Table → Contents
contents t = record { header = t.header; rows = rows_of t }

-- The row at a number.
abbrev pub row_at : Contents → ℕ → Row
row_at t k = get_or t.rows k no_row

-- A number in use: it is below the row count, and the row at it is not empty. What asks for a number goes by it; what goes over the rows, which end at the count, asks whether each is there.
unfoldable pub in_use : Contents → ℕ → Bool
in_use t k = ltb k (length t.rows) && is_there (row_at t k)

pub record InUse (t : Contents) (k : ℕ) : Type 0 where
  pub below : k < length t.rows
  pub there : is_there (row_at t k) ≡ true

-- The row count is one above the highest number in use.
unfoldable pub count_right : Contents → Bool
count_right t = in_use t (length t.rows - 1)

-- ---- rows that join and leave
-- A row joins at a number; from the row count up to it numbers are empty.
unfoldable pub rows_with : ℕ → Row → List Row → List Row
rows_with zero r [] = r ∷ []
rows_with zero r (x ∷ rs) = r ∷ rs
rows_with (suc k) r [] = no_row ∷ rows_with k r []
rows_with (suc k) r (x ∷ rs) = x ∷ rows_with k r rs

-- Rows up to the last that is there.
abbrev pub before : Row → List Row → List Row
before r [] = cond (is_there r) (r ∷ []) []
before r (x ∷ xs) = r ∷ x ∷ xs

unfoldable pub trimmed : List Row → List Row
trimmed [] = []
trimmed (r ∷ rs) = before r (trimmed rs)

-- A row leaves: its number is empty, and the count falls to one above the highest number in use.
unfoldable pub rows_without : ℕ → List Row → List Row
rows_without k rs = trimmed (set rs k no_row)

-- A table with a row more, and with one less.
unfoldable pub with_row : ℕ → Row → Contents → Contents
with_row k r t = record { header = t.header; rows = rows_with k r t.rows }

unfoldable pub without_row : ℕ → Contents → Contents
without_row k t = record { header = t.header; rows = rows_without k t.rows }
