-- What a list of bytes reads as: an edition and a table, or the first refusal with its place. Checks are in file order, but for the deadline's range and default.
use Rattle.std.specs.Prelude.{ℕ, zero, suc, ◌+◌, ◌-◌, Bool, true, false, not, cond, ◌&&◌, List, [], ◌∷◌, ◌++◌, ◌≡◌, leb, eqb, length, get_or, drop, replicate, Result, Ok, Err}
use Rattle.table.specs.declared.Class.{Class}
use Rattle.table.specs.declared.Pace.{Pace}
use Rattle.table.specs.declared.Pace.TheVariants as paces
use Rattle.table.specs.declared.Row.{Row}
use Rattle.table.specs.declared.Header.{Header}
use Rattle.table.specs.declared.Table.{Table}
use Rattle.table.specs.Limits.{most_rows, most_slope, most_payload}
use Rattle.table.specs.Rows.{no_row}
use Rattle.table.specs.Checks.{Outcome, accepted, refused, unless, first}
use Rattle.table.specs.Checks as checks
use Rattle.table.specs.Ranges.{period_ok, rate_ok, samples_ok, deadline_ok}
use Rattle.tablefile.specs.declared.Edition.{Edition}
use Rattle.tablefile.specs.declared.Edition.TheVariants.{Avb1, Avb2}
use Rattle.tablefile.specs.declared.Fault.{Fault}
use Rattle.tablefile.specs.declared.Fault.TheVariants.{CutShort, Letters, RowCount, MapBit, OutOfRange, StatesDefault, Trailing, TwoPaces}
use Rattle.tablefile.specs.declared.Misread.{Misread}
use Rattle.tablefile.specs.declared.Loaded.{Loaded}
use Rattle.tablefile.specs.declared.Unopened.{Unopened}
use Rattle.tablefile.specs.declared.Unopened.TheVariants as unopened
use Rattle.tablefile.specs.Layout.{letters, header_size, idlea_place, idleb_place, best_place, count_place, value_at, Field, Payload, Period, Deadline, Rate, Samples, value_of, width_of, default_payload, default_period, default_deadline, usual, bit_of, reserved_clear, tagged_of, two_paces, class_of, place_of, row_size}

-- The number of each case of the fault enum.
abbrev pub number_of : Fault → ℕ
number_of CutShort = 1
number_of Letters = 2
number_of RowCount = 3
number_of MapBit = 4
number_of OutOfRange = 5
number_of StatesDefault = 6
number_of Trailing = 7
number_of TwoPaces = 19

-- The refusal that a misread stands for, and the outcome of what may be misread.
abbrev pub refusal_of : Misread → Outcome
refusal_of m = refused (number_of m.fault) m.place

abbrev pub outcome_of : {X : Type 0} → Result X Misread → Outcome
outcome_of (Ok x) = accepted
outcome_of (Err m) = refusal_of m

-- The number and the place of a file that is not opened: its own, or its table's.
abbrev pub unopened_number : Unopened → ℕ
unopened_number (unopened.Misread m) = number_of m.fault
unopened_number (unopened.Refused r) = checks.number_of r

abbrev pub unopened_place : Unopened → ℕ
unopened_place (unopened.Misread m) = m.place
unopened_place (unopened.Refused r) = checks.place_of r

abbrev pub unopened_by : Unopened → Outcome
unopened_by e = refused (unopened_number e) (unopened_place e)

-- ---- The header: IA u32, IB u32, best-effort payload u16, row count u8.
unfoldable pub opens : Edition → List ℕ → Bool
opens e s = (eqb (get_or s 0 0) (get_or (letters e) 0 0) && eqb (get_or s 1 0) (get_or (letters e) 1 0)) && (eqb (get_or s 2 0) (get_or (letters e) 2 0) && eqb (get_or s 3 0) (get_or (letters e) 3 0))

abbrev pub header_of : List ℕ → Header
header_of s = record { idlea = value_at 4 s idlea_place; idleb = value_at 4 s idleb_place; payload = value_at 2 s best_place }

abbrev pub row_count : List ℕ → ℕ
row_count s = get_or s count_place 0

-- In file order: 1, the file ends inside the header (place 0, tested before all else); 2, wrong first four bytes (place 0); 5 and 3 at the field's first byte.
abbrev pub header_checks : Edition → List ℕ → List Outcome
header_checks e s =
    unless (leb header_size (length s)) 1 0
    ∷ unless (opens e s) 2 0
    ∷ unless (leb (header_of s).idlea most_slope) 5 idlea_place
    ∷ unless (leb (header_of s).idleb most_slope) 5 idleb_place
    ∷ unless (leb (header_of s).payload most_payload) 5 best_place
    ∷ unless (leb 1 (row_count s) && leb (row_count s) most_rows) 3 count_place
    ∷ []

unfoldable pub header : Edition → List ℕ → Outcome
header e s = first (header_checks e s)

-- ---- A row, from the part of the file that starts at its map byte.
abbrev pub map_of : List ℕ → ℕ
map_of s = get_or s 0 0

-- The number that stands at a field's place.
abbrev pub number_in : Field → List ℕ → ℕ
number_in f s = value_at (width_of f) s (place_of f (map_of s))

-- A field is what its bytes say where its bit stands, and else its default in the row before it.
abbrev pub said : Field → List ℕ → ℕ → ℕ
said f s default = cond (bit_of f (map_of s)) (number_in f s) default

-- A row before its first field.
abbrev pub blank : Class → Bool → Row
blank c tagged = record { class = c; tagged = tagged; payload = 0; pace = paces.Period 0; deadline = 0 }

abbrev pub with_payload : Edition → List ℕ → Row → Row
with_payload e s r = record { class = r.class; tagged = r.tagged; payload = said Payload s (default_payload e r); pace = r.pace; deadline = r.deadline }

-- The table remembers which way the period was given: by bit 3 a rate and samples, and else a period.
abbrev pub pace_from : Edition → List ℕ → Row → Pace
pace_from e s r = cond (bit_of Rate (map_of s)) (paces.Rated (number_in Samples s) (number_in Rate s)) (paces.Period (said Period s (default_period e r)))

abbrev pub with_pace : Edition → List ℕ → Row → Row
with_pace e s r = record { class = r.class; tagged = r.tagged; payload = r.payload; pace = pace_from e s r; deadline = r.deadline }

abbrev pub with_deadline : Edition → List ℕ → Row → Row
with_deadline e s r = record { class = r.class; tagged = r.tagged; payload = r.payload; pace = r.pace; deadline = said Deadline s (default_deadline e r) }

-- A row but for its deadline, whose default goes by the pace; and the row.
unfoldable pub paced_from : Edition → List ℕ → Row
paced_from e s = with_pace e s (with_payload e s (blank (class_of (map_of s)) (tagged_of e (map_of s))))

unfoldable pub row_from : Edition → List ℕ → Row
row_from e s = with_deadline e s (paced_from e s)

-- A field's values: payload 0 to 1500, period 84 to 1,000,000,000 byte-times, deadline 1 to 1,000,000,000 byte-times, rate 1,000 to 200,000 Hz, samples 1 to 255.
abbrev pub fine : Field → Row → Bool
fine Payload r = leb (value_of Payload r) most_payload
fine Period r = period_ok (value_of Period r)
fine Deadline r = deadline_ok (value_of Deadline r)
fine Rate r = rate_ok (value_of Rate r)
fine Samples r = samples_ok (value_of Samples r)

-- Only a field whose bit stands is asked for.
abbrev pub asked : Bool → Outcome → Outcome
asked true o = o
asked false o = accepted

-- 1, the file ends inside the field. The place is the field's first byte.
abbrev pub presence : (stands inside : Bool) → ℕ → Outcome
presence stands inside place = asked stands (unless inside 1 place)

abbrev pub present : Field → List ℕ → ℕ → Outcome
present f s at = presence (bit_of f (map_of s)) (leb (place_of f (map_of s) + width_of f) (length s)) (at + place_of f (map_of s))

-- 5, out of range; 6, a field stating its default. The place again is the field's first byte.
abbrev pub judgement : (stands ok usual : Bool) → ℕ → Outcome
judgement stands ok usual place = asked stands (first (unless ok 5 place ∷ unless (not usual) 6 place ∷ []))

abbrev pub judged : Edition → Field → List ℕ → ℕ → Outcome
judged e f s at = judgement (bit_of f (map_of s)) (fine f (row_from e s)) (usual e f (row_from e s)) (at + place_of f (map_of s))

-- A field: its bytes are there, and then what they say.
abbrev pub field_tests : (stands inside ok usual : Bool) → ℕ → List Outcome
field_tests stands inside ok usual place = presence stands inside place ∷ judgement stands ok usual place ∷ []

abbrev pub field_checks : Edition → Field → List ℕ → ℕ → List Outcome
field_checks e f s at = present f s at ∷ judged e f s at ∷ []

-- The map byte: 1, the file ends where it should stand; 4, a reserved map bit; 19, bits 1 and 3 both set.
abbrev pub map_checks : Edition → List ℕ → ℕ → List Outcome
map_checks e s at = unless (leb 1 (length s)) 1 at ∷ unless (reserved_clear e (map_of s)) 4 at ∷ unless (not (two_paces (map_of s))) 19 at ∷ []

-- A row, in file order; but the deadline is judged last, since its default goes by the pace. The row stands at `at`, and places count from the start of the file.
abbrev pub row_checks : Edition → List ℕ → ℕ → List Outcome
row_checks e s at =
    map_checks e s at
    ++ field_checks e Payload s at
    ++ field_checks e Period s at
    ++ present Deadline s at
    ∷ field_checks e Rate s at
    ++ field_checks e Samples s at
    ++ judged e Deadline s at
    ∷ []

unfoldable pub row : Edition → List ℕ → ℕ → Outcome
row e s at = first (row_checks e s at)

-- ---- Rows one behind the other from a place on: what each says, the rows, and the place behind the last.
abbrev pub behind_row : List ℕ → ℕ → ℕ
behind_row s at = at + row_size (map_of (drop at s))

unfoldable pub rows_checks : Edition → ℕ → List ℕ → ℕ → List Outcome
rows_checks e zero s at = []
rows_checks e (suc n) s at = row e (drop at s) at ∷ rows_checks e n s (behind_row s at)

unfoldable pub rows_from : Edition → ℕ → List ℕ → ℕ → List Row
rows_from e zero s at = []
rows_from e (suc n) s at = row_from e (drop at s) ∷ rows_from e n s (behind_row s at)

unfoldable pub rows_end : ℕ → List ℕ → ℕ → ℕ
rows_end zero s at = at
rows_end (suc n) s at = rows_end n s (behind_row s at)

-- ---- The file. 7, bytes after the last row.
abbrev pub file_end : List ℕ → ℕ
file_end s = rows_end (row_count s) s header_size

abbrev pub file_checks : Edition → List ℕ → List Outcome
file_checks e s = header e s ∷ first (rows_checks e (row_count s) s header_size) ∷ unless (leb (length s) (file_end s)) 7 (file_end s) ∷ []

-- A table of zeros: what is handed back at a refusal.
abbrev pub no_table : Table
no_table = record { header = record { idlea = 0; idleb = 0; payload = 0 }; count = 0; rows = replicate most_rows no_row }

-- The header's values beside rows. Reading fills unused rows with zeros.
abbrev pub table_of : List ℕ → List Row → Table
table_of s rs = record { header = header_of s; count = row_count s; rows = rs ++ replicate (most_rows - length rs) no_row }

abbrev pub table_by : Edition → Outcome → List ℕ → Table
table_by e accepted s = table_of s (rows_from e (row_count s) s header_size)
table_by e (refused n place) s = no_table

-- What a file reads as: an outcome, an edition, and the table.
pub record FileRead : Type 0 where
  pub outcome : Outcome
  pub edition : Edition
  pub table : Table

-- In an edition.
unfoldable pub read_as : Edition → List ℕ → FileRead
read_as e s = record { outcome = first (file_checks e s); edition = e; table = table_by e (first (file_checks e s)) s }

-- The edition is the one that the first four bytes name. Where they are AVB2's it is that one, and else AVB1, which refuses all letters but its own with 2.
unfoldable pub edition_of : List ℕ → Edition
edition_of s = cond (opens Avb2 s) Avb2 Avb1

unfoldable pub read_file : List ℕ → FileRead
read_file s = read_as (edition_of s) s

-- The promise of reading: the edition and the table are those of what the file reads as, where it is accepted; and else its refusal is the misread's.
pub record Whole (f : FileRead) (l : Loaded) : Type 0 where
  pub outcome : f.outcome ≡ accepted
  pub edition : l.edition ≡ f.edition
  pub table : l.table ≡ f.table

abbrev pub Reads : FileRead → Result Loaded Misread → Type 0
Reads f (Ok l) = Whole f l
Reads f (Err m) = f.outcome ≡ refusal_of m
