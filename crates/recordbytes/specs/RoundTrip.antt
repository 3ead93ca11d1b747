-- Reading and writing a record undo each other: the theorems' statements.
use Rattle.std.specs.Prelude.{ℕ, ◌≤◌, true, List, ◌≡◌, length, get_or}
use Rattle.machine.specs.State.{State, view, Placed}
use Rattle.words.specs.Words.{Bytes}
use Rattle.recordbytes.specs.Layout.{record_size}
use Rattle.recordbytes.specs.Record.{record_over, state_of, is_record}
use Rattle.recordbytes.specs.Fits.{Fits}
use Rattle.recordbytes.specs.Port.{port_from}

-- A port written over any bytes that are long enough is read back: so for every port that fits, whatever the bytes held.
pub record ReadBack (p : State) (s : List ℕ) : Type 0 where
  pub record_bytes : is_record (record_over p s) ≡ true
  pub port : state_of (record_over p s) ≡ p

abbrev pub ReadingWritten : Type 0
ReadingWritten = (p : State) (s : List ℕ) → Fits p → record_size ≤ length s → ReadBack p s

-- What was read, written over the same bytes, leaves them as they are, to the last.
abbrev pub WritingRead : Type 0
WritingRead = (s : List ℕ) → Bytes s → is_record s ≡ true → record_over (state_of s) s ≡ s

-- The port that a record's bytes name fits: so the ports that records hold are exactly those that fit.
abbrev pub ReadFits : Type 0
ReadFits = (s : List ℕ) → Bytes s → is_record s ≡ true → Fits (state_of s)

-- Writing keeps the bytes' number, and each byte behind the record.
pub record Kept (p : State) (s : List ℕ) : Type 0 where
  pub size : length (record_over p s) ≡ length s
  pub behind : (i : ℕ) → record_size ≤ i → get_or (record_over p s) i 0 ≡ get_or s i 0

abbrev pub BehindKept : Type 0
BehindKept = (p : State) (s : List ℕ) → Kept p s

-- The port record that is handed out has the parts that the bytes name.
abbrev pub SameParts : Type 0
SameParts = (p : State) → Placed p → view (port_from p) ≡ p
