-- Reading and writing undo each other within one edition: the theorems' statements. Each holds of every edition.
use Rattle.std.specs.Prelude.{ℕ, ◌-◌, ◌<◌, List, [], ◌∷◌, ◌≡◌, length, drop, replicate, Result}
use Rattle.table.specs.Limits.{most_rows}
use Rattle.table.specs.Rows.{no_row, Contents, contents}
use Rattle.table.specs.Checks.{accepted}
use Rattle.tablefile.specs.declared.Edition.{Edition}
use Rattle.tablefile.specs.declared.Misread.{Misread}
use Rattle.tablefile.specs.Reading.{outcome_of, FileRead, read_as, read_file}
use Rattle.tablefile.specs.declared.Unwritten.{Unwritten}
use Rattle.tablefile.specs.Writing as writes
use Rattle.tablefile.specs.Writing.{file_of, writable}

-- A list of bytes: each of its numbers is below 256.
abbrev pub Bytes : List ℕ → Type 0
Bytes [] = Unit {0}
Bytes (b ∷ s) = (b < 256) × Bytes s

-- A file that reads in an edition is one whose letters name it: so reading, which finds the edition, reads it so.
abbrev pub Found : Type 0
Found = (e : Edition) (s : List ℕ) → (read_as e s).outcome ≡ accepted → read_file s ≡ read_as e s

-- What was read is a table's contents again: the whole file was read, in the edition, header values and rows are the table's, and unused places are zeros.
pub record ReadBack (e : Edition) (t : Contents) (f : FileRead) : Type 0 where
  pub outcome : f.outcome ≡ accepted
  pub edition : f.edition ≡ e
  pub contents : contents f.table ≡ t
  pub unused : drop (length t.rows) f.table.rows ≡ replicate (most_rows - length t.rows) no_row

-- Reading what was written gives the edition and the table: so for every table whose row count and values are in range and whose rows the edition allows.
abbrev pub ReadingWritten : Type 0
ReadingWritten = (e : Edition) (t : Contents) → writable e t ≡ accepted → ReadBack e t (read_file (file_of e t))

-- Writing what was read, in its edition, gives the file's own bytes, to the last: so for every list of bytes that reads.
abbrev pub WritingRead : Type 0
WritingRead = (s : List ℕ) → Bytes s → (read_file s).outcome ≡ accepted → file_of (read_file s).edition (contents (read_file s).table) ≡ s

-- The table of a file that reads may be written in its edition, so that the writer refuses it at most for the buffer's length.
abbrev pub ReadWritable : Type 0
ReadWritable = (s : List ℕ) → Bytes s → (read_file s).outcome ≡ accepted → writable (read_file s).edition (contents (read_file s).table) ≡ accepted

-- A file that reads is exactly as long as what the writer writes for its table.
abbrev pub AsLong : Type 0
AsLong = (s : List ℕ) → Bytes s → (read_file s).outcome ≡ accepted → length s ≡ length (file_of (read_file s).edition (contents (read_file s).table))

-- Different answers of reading have different numbers or places.
abbrev pub SameReading : Type 0
SameReading = (a b : Result (Unit {0}) Misread) → outcome_of a ≡ outcome_of b → a ≡ b

-- Different answers of writing have different numbers, places or lengths.
abbrev pub SameWriting : Type 0
SameWriting = (a b : Result ℕ Unwritten) → writes.outcome_of a ≡ writes.outcome_of b → writes.length_of a ≡ writes.length_of b → a ≡ b
