-- The bytes of a table's file in an edition, and what writing it leaves in a lent buffer.
use Rattle.std.specs.Prelude.{ℕ, ◌+◌, cond, List, [], ◌∷◌, ◌++◌, ◌≡◌, leb, length, Result, Ok, Err}
use Rattle.table.specs.declared.Row.{Row}
use Rattle.table.specs.declared.Table.{Table}
use Rattle.table.specs.Rows.{Contents, contents}
use Rattle.table.specs.Checks.{Outcome, accepted, refused, unless, unless_row, first, over}
use Rattle.table.specs.Ranges.{ranged}
use Rattle.tablefile.specs.declared.Edition.{Edition}
use Rattle.tablefile.specs.declared.Unwritten.{Unwritten}
use Rattle.tablefile.specs.declared.Unwritten.TheVariants.{TooShort, Tagged, Refused}
use Rattle.tablefile.specs.Layout.{letters, bytes_of, Field, Payload, Period, Deadline, Rate, Samples, value_of, width_of, states, weight_of, bit_of, allows, tag_bit, class_bit}
use Rattle.table.specs.Checks as checks

-- The map byte: a bit for each field that the row states, one for rate and samples, one for the tag, and the class.
abbrev pub bit_for : Edition → Field → Row → ℕ
bit_for e f r = cond (states e f r) (weight_of f) 0

unfoldable pub map_byte : Edition → Row → ℕ
map_byte e r = bit_for e Payload r + bit_for e Period r + bit_for e Deadline r + bit_for e Rate r + tag_bit r.tagged + class_bit r.class

-- A row's bytes: its map, then only the fields whose bit stands, in bit order.
abbrev pub field_bytes : Edition → Field → Row → List ℕ
field_bytes e f r = cond (bit_of f (map_byte e r)) (bytes_of (width_of f) (value_of f r)) []

unfoldable pub row_bytes : Edition → Row → List ℕ
row_bytes e r = map_byte e r ∷ field_bytes e Payload r ++ field_bytes e Period r ++ field_bytes e Deadline r ++ field_bytes e Rate r ++ field_bytes e Samples r

unfoldable pub rows_bytes : Edition → List Row → List ℕ
rows_bytes e [] = []
rows_bytes e (r ∷ rs) = row_bytes e r ++ rows_bytes e rs

-- The header: the four letters, IA u32, IB u32, best-effort payload u16, row count u8.
unfoldable pub header_bytes : Edition → Contents → List ℕ
header_bytes e t = letters e ++ bytes_of 4 t.header.idlea ++ bytes_of 4 t.header.idleb ++ bytes_of 2 t.header.payload ++ length t.rows ∷ []

unfoldable pub file_of : Edition → Contents → List ℕ
file_of e t = header_bytes e t ++ rows_bytes e t.rows

-- Writing: 3 and 5 as at opening. 23, a tagged row to be written as AVB1, place the lowest such row. 17, buffer shorter than the file.
unfoldable pub writable : Edition → Contents → Outcome
writable e t = first (ranged t ∷ unless_row (allows e) t.rows 23 ∷ [])

unfoldable pub write_check : Edition → Contents → List ℕ → Outcome
write_check e t buffer = first (writable e t ∷ unless (leb (length (file_of e t)) (length buffer)) 17 0 ∷ [])

-- The outcome that each case stands for; one that is no refusal carries the length.
abbrev pub refusal_of : Unwritten → Outcome
refusal_of TooShort = refused 17 0
refusal_of (Tagged k) = refused 23 k
refusal_of (Refused r) = refused (checks.number_of r) (checks.place_of r)

abbrev pub outcome_of : Result ℕ Unwritten → Outcome
outcome_of (Ok n) = accepted
outcome_of (Err u) = refusal_of u

abbrev pub length_of : Result ℕ Unwritten → ℕ
length_of (Ok n) = n
length_of (Err u) = 0

abbrev pub length_by : Outcome → Edition → Contents → ℕ
length_by accepted e t = length (file_of e t)
length_by (refused n p) e t = 0

-- The promise of writing. The buffer: the file's bytes, then its own bytes behind them; at a refusal every byte as it was.
pub record Writes (e : Edition) (t : Table) (before after : List ℕ) (w : Result ℕ Unwritten) : Type 0 where
  pub answer : outcome_of w ≡ write_check e (contents t) before
  pub size : length_of w ≡ length_by (write_check e (contents t) before) e (contents t)
  pub buffer : after ≡ over (write_check e (contents t) before) (file_of e (contents t)) before
