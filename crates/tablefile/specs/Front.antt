-- A list of bytes that is longer than any table file reads as its front does: the theorem's statement.
use Rattle.std.specs.Prelude.{ℕ, ◌+◌, ◌*◌, ◌<◌, List, ◌≡◌, take}
use Rattle.table.specs.Limits.{most_rows}
use Rattle.tablefile.specs.Layout.{header_size}
use Rattle.tablefile.specs.Reading.{read_file}

-- A row takes at most 12 bytes: its map, payload, deadline, rate and samples. So a file has at most 399.
abbrev pub most_row : ℕ
most_row = 12

abbrev pub most_file : ℕ
most_file = header_size + most_rows * most_row

-- Who has read more bytes than a file has knows what the whole reads as, however much follows.
abbrev pub FrontReads : Type 0
FrontReads = (k : ℕ) (s : List ℕ) → most_file < k → read_file (take k s) ≡ read_file s
