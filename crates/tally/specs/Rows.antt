-- What is asked of the rows' frames in a record: of each by its row, and of each row's together.
use Rattle.std.specs.Prelude.{ℕ, zero, suc, ◌*◌, Bool, true, false, cond, ◌&&◌, List, ◌≡◌, leb, ltb, eqb, length, get_or, Option}
use Rattle.table.specs.declared.Table.{Table}
use Rattle.table.specs.Limits.{most_rows, class_places}
use Rattle.table.specs.Wire.{period_of}
use Rattle.table.specs.Rows.{Contents, rows_of, contents, row_at, in_use}
use Rattle.machine.specs.declared.Frame.{Frame}
use Rattle.machine.specs.declared.Wire.{Wire}
use Rattle.machine.specs.declared.Wire.TheVariants.{Free, Sending}
use Rattle.machine.specs.declared.Queue.{Queue}
use Rattle.machine.specs.State.{Instant, never, instants_of}
use Rattle.machine.specs.Record.{taken_in, up_to, spaced, ends_at}
use Rattle.spacing.specs.Spread.{in_record, in_places}
use Rattle.notes.specs.declared.Order.{Order}
use Rattle.notes.specs.declared.Order.TheVariants.{Broken, Rising, Mixed}
use Rattle.notes.specs.Notes.{queues_test}

-- So many frames, a period apart, may all be younger than a limit: the periods between them are shorter.
abbrev pub in_limit : ℕ → (period limit : ℕ) → Bool
in_limit zero period limit = true
in_limit (suc n) period limit = ltb (n * period) limit

-- A row's frames by when they were taken: no more than may be, a period apart, the newest at the row's last instant.
unfoldable pub instants_test : (period limit : ℕ) → Instant → List ℕ → Bool
instants_test period limit l xs = in_limit (length xs) period limit && (spaced period xs && ends_at xs l)

-- The same of the row at a number, by the limits, the last instants and the frames in a record.
unfoldable pub held_test : Contents → List ℕ → List Instant → List Frame → ℕ → Bool
held_test t limits ls fs k = instants_test (period_of (row_at t k)) (get_or limits k 0) (get_or ls k never) (taken_in k fs)

-- And of a number in use only.
abbrev pub held_if : Contents → List ℕ → List Instant → List Frame → ℕ → Bool
held_if t limits ls fs k = cond (in_use t k) (held_test t limits ls fs k) true

-- No row's frame waits in a class queue, by the two counts, or is on the wire: that is free, or what is on it names no row.
abbrev pub no_row_on : Wire → Bool
no_row_on Free = true
no_row_on (Sending f left) = leb most_rows f.source

unfoldable pub no_row_frames : Wire → (a b : ℕ) → Bool
no_row_frames w a b = (eqb a 0 && eqb b 0) && no_row_on w

-- All that is asked of them; false where rows or frames have no place.
unfoldable pub row_frames_test : Wire → Queue class_places → Queue class_places → Table → List ℕ → List (Option ℕ) → ℕ → Bool
row_frames_test w a b t limits last now = in_places t a b && (queues_test (contents t) limits now a b && up_to t.count (held_if (contents t) limits (instants_of (rows_of t) last) (in_record w a b)))

-- What the frames' order says of a test: that it fails, that it holds, or that another decides it.
abbrev pub TestBy : Bool → Bool → Order → Type 0
TestBy test other Broken = test ≡ false
TestBy test other Rising = test ≡ true
TestBy test other Mixed = test ≡ other
