-- What the private functions promise each other. No public promise cites this file.
use Rattle.std.specs.Prelude.{ℕ, length, take}
use Rattle.table.specs.declared.Table.{Table}
use Rattle.table.specs.Rows.{trimmed}

-- How many of the first n places there are up to the last row that is there.
abbrev pub top_of : ℕ → Table → ℕ
top_of n t = length (trimmed (take n t.rows))
