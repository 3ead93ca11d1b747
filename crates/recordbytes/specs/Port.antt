-- The record that bytes are read as.
use Rattle.std.specs.Prelude.{ℕ, cond, List, length, Option, Some, None}
use Rattle.table.specs.declared.Table.{Table}
use Rattle.table.specs.Limits.{most_rows}
use Rattle.table.specs.Rows.{no_row, Contents}
use Rattle.machine.specs.declared.Port.{Port}
use Rattle.machine.specs.State.{State, placed, port_of}
use Rattle.recordbytes.specs.Record.{state_of, is_record}

-- A table, and a port, by its parts, with zeros in the places that belong to none.
unfoldable pub table_from : Contents → Table
table_from t = record { header = t.header; count = length t.rows; rows = placed most_rows no_row t.rows }

unfoldable pub port_from : State → Port
port_from s = port_of (table_from s.table) s

-- What bytes are read as: the port that a record's words name.
unfoldable pub read_record : List ℕ → Option Port
read_record s = cond (is_record s) (Some (port_from (state_of s))) None
