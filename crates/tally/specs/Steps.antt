-- What the private functions of the crate promise each other. No public promise cites this file.
use Rattle.std.specs.Prelude.{ℕ, Bool, true, cond, ◌&&◌, List, eqb, get_or, Option, None}
use Rattle.table.specs.declared.Table.{Table}
use Rattle.table.specs.Wire.{period_of}
use Rattle.table.specs.Rows.{no_row, is_there}
use Rattle.figures.specs.declared.Lane.{Lane}
use Rattle.figures.specs.Lanes.{residence_by}
use Rattle.machine.specs.State.{Instant, instant_of}
use Rattle.machine.specs.Record.{is_at}
use Rattle.tally.specs.Rows.{in_limit}

-- A row's count and its newest frame, and those of the row in a place, unless that is empty.
unfoldable pub count_test : (count newest : ℕ) → Instant → (limit period : ℕ) → Bool
count_test n x l limit period = in_limit n period limit && cond (eqb n 0) true (is_at x l)

abbrev pub counts_test : Table → Lane → Lane → List (Option ℕ) → List ℕ → List ℕ → ℕ → Bool
counts_test t ofa ofb last newest counts k =
    let row = get_or t.rows k no_row in
    cond (is_there row) (count_test (get_or counts k 0) (get_or newest k 0) (instant_of (get_or last k None)) (residence_by ofa ofb row) (period_of row)) true
