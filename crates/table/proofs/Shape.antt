-- A table record's rows as a loop meets them: 32 places, and one row after the other.
use Prim.Native.Nat.{ℕ, suc, ◌-◌, ◌≤◌, ◌<◌}
use mathlib.Core.Path.{◌≡◌, ◌∙◌, ap}
use mathlib.Core.List.{List, [], ◌∷◌, append-nil}
use native.Mathlib.Omega.{arith}
use lib.ListN.{length, get_or, drop, take, replicate, length-take, length-append, length-replicate, drop_of_length-le, get_or-append}
use lib.Seq.{drop-cons, get_or-take}
use mir.Val.{Val}
use denote.Laws.{Is}
use denote.Struct.Declared as Declared
use Rattle.table.specs.declared.Row.{Row}
use Rattle.table.specs.declared.Table.{Table}
use Rattle.table.specs.contracts.Table.{the_type}
use Rattle.table.specs.Limits.{most_rows}
use Rattle.table.specs.Rows.{no_row, rows_of}

-- what owning a table record tells of its places
pub places : (t : Table) (vs : List Val) → Is (Declared.row the_type) t vs → length t.rows ≡ 32
places t vs p = p.1.1.1.1.0.1.0.1

-- there are as many rows as the count says
pub rows_length : (t : Table) → length (rows_of t) ≡ t.count
unfolding rows_of
rows_length t = rw (length-append (take t.count t.rows) (replicate (t.count - length t.rows) no_row), length-take, length-replicate) (omega arith)

-- the rows of a count within the places are those that stand there
pub rows_are : (t : Table) → t.count ≤ length t.rows → rows_of t ≡ take t.count t.rows
unfolding rows_of
rows_are t h = let e : t.count - length t.rows ≡ 0 = omega arith in rw e (append-nil (take t.count t.rows))

-- the row at a place, however many the count says
pub row_in_place : (t : Table) → length t.rows ≡ 32 → (i : ℕ) → i < t.count → i < most_rows → get_or (rows_of t) i no_row ≡ get_or t.rows i no_row
unfolding rows_of
row_in_place t long i h g =
    get_or-append (take t.count t.rows) (replicate (t.count - length t.rows) no_row) no_row i (rw (length-take, long) (omega arith)) ∙ get_or-take t.count t.rows i no_row h

module _ (t : Table) (long : length t.rows ≡ 32) (few : t.count ≤ most_rows) where
  within : t.count ≤ length t.rows
  within = rw long few

  pub row_here : (i : ℕ) → i < t.count → get_or (rows_of t) i no_row ≡ get_or t.rows i no_row
  row_here i h = rw (rows_are t within) (get_or-take t.count t.rows i no_row h)

  -- the row at i stands at the head of what is left
  pub next_row : (i : ℕ) → i < t.count → drop i (rows_of t) ≡ get_or t.rows i no_row ∷ drop (suc i) (rows_of t)
  next_row i h = drop-cons (rows_of t) i no_row (rw (rows_length t) h) ∙ ap (λ (r : Row). r ∷ drop (suc i) (rows_of t)) (row_here i h)

  pub no_row_lem : (i : ℕ) → t.count ≤ i → drop i (rows_of t) ≡ []
  no_row_lem i h = drop_of_length-le (rows_of t) {i = i} (rw (rows_length t) h)
