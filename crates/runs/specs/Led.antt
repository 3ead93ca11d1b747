-- A run from one read to the next: what `portrun` promises of the run that it is left with.
use Rattle.std.specs.Prelude.{ℕ, true, false, List, ◌≡◌}
use Rattle.table.specs.declared.Table.{Table}
use Rattle.table.specs.Rows.{contents}
use Rattle.table.specs.Checks.{accepted}
use Rattle.tablefile.specs.Reading.{read_file}
use Rattle.machine.specs.State.{view}
use Rattle.machine.specs.Run as machine
use Rattle.codes.specs.Codes.{file_check}
use Rattle.runs.specs.declared.Run.{Run}
use Rattle.runs.specs.Runs.{Told, going_on}
use Rattle.runs.specs.Printed.{events_of, prints}

-- A run that reads no more.
abbrev pub stopped : Run → Run
stopped r = record { port = r.port; line = r.line; live = false }

-- A run that something told has led to: its port and its line. It may have stopped besides, where its text could not be written or the input could not be read.
pub record Led (t : Table) (u : Told) (r : Run) : Type 0 where
  pub state : view r.port ≡ u.state
  pub table : r.port.table ≡ t
  pub line : r.line ≡ u.line
  pub live : r.live ≡ true → u.live ≡ true

-- Some bytes more have led to it. Which ones were read a promise can't say.
pub record LedOn (t : Table) (u : Told) (r : Run) : Type 0 where
  pub bytes : List ℕ
  pub led : Led t (going_on u bytes) r

-- Of the whole program: some bytes have led to the run, from the table file on. If the file is accepted their calls are a run to this very record, and demand 3 holds of it.
pub record Plays (file : List ℕ) (r : Run) : Type 0 where
  pub bytes : List ℕ
  pub led : Led (read_file file).table (prints file bytes) r
  pub run : file_check file ≡ accepted → machine.Run (read_file file).table (events_of file bytes) r.port
  pub demand3 : file_check file ≡ accepted → machine.Demand3 (contents (read_file file).table) (events_of file bytes) r.port
