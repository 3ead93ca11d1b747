-- What the private functions promise each other. No public promise cites this file.
use Rattle.std.specs.Prelude.{ℕ, ◌+◌, ◌<◌, min, [], ◌∷◌, ◌++◌, ◌≡◌, replicate}
use Rattle.table.specs.declared.Row.{Row}
use Rattle.table.specs.declared.Header.{Header}
use Rattle.table.specs.declared.Table.{Table}
use Rattle.table.specs.Limits.{most_rows}
use Rattle.table.specs.Rows.{no_row, rows_of}

-- The fewest rows that are too many.
abbrev pub enough : ℕ
enough = 33

-- The table with a header and no row.
abbrev pub no_rows : Header → Table
no_rows h = record { header = h; count = 0; rows = replicate most_rows no_row }

-- A table with one more row: it stands behind the last row if there is a place for it, and rows are counted up to one too many.
pub record Pushed (t : Table) (row : Row) (r : Table) : Type 0 where
  pub header : r.header ≡ t.header
  pub count : r.count ≡ min (t.count + 1) enough
  pub rows : t.count < most_rows → rows_of r ≡ rows_of t ++ row ∷ []
