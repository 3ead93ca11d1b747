-- A buffer with a port's record, or with what a join or a leave changes of one, written at its front.
use Rattle.std.specs.Prelude.{ℕ, cond, List, leb, length, Option}
use Rattle.table.specs.declared.Table.{Table}
use Rattle.table.specs.Rows.{rows_of, contents}
use Rattle.machine.specs.declared.Port.{Port}
use Rattle.machine.specs.State.{instants_of, kept_of, view}
use Rattle.recordbytes.specs.Layout.{record_size}
use Rattle.recordbytes.specs.Record.{table_over, lasts_over, bounds_over, record_over}

-- The port's parts are stored at their places, and every other byte keeps its value; a buffer that is too short stays as it is.
unfoldable pub written : Port → List ℕ → List ℕ
written p s = cond (leb record_size (length s)) (record_over (view p) s) s

-- Of a port its table, its last instants and its bounds alone.
unfoldable pub patched : Table → List (Option ℕ) → List ℕ → List ℕ → List ℕ
patched t last bounds s = cond (leb record_size (length s)) (bounds_over (kept_of t.count bounds) (lasts_over (rows_of t) (instants_of (rows_of t) last) (table_over (contents t) s))) s
