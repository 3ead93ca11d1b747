-- Every sheet finds room: a heading of 37 bytes, and at most 32 lines of at most 107.
use Prim.Native.Nat.{ℕ, suc, ◌*◌, ◌≤◌}
use mathlib.Core.List.{List, [], ◌∷◌}
use mathlib.Core.Path.{◌≡◌, refl}
use native.Mathlib.Omega.{arith}
use lib.ListN.{length, take, length-append}
use Rattle.table.specs.declared.Class.{Class}
use Rattle.table.specs.declared.Class.TheVariants.{A, B}
use Rattle.table.specs.declared.Row.{Row}
use Rattle.table.specs.Wire.{size_of, period_of}
use Rattle.table.specs.Rows.{Contents, contents}
use Rattle.table.specs.Checks.{Outcome, accepted, refused}
use Rattle.planner.specs.Bound.{bound}
use Rattle.planner.proofs.Laws.{accepted_if}
use Rattle.tablefile.specs.Reading.{read_file}
use Rattle.codes.specs.Codes.{file_check}
use Rattle.codes.proofs.Laws.{opened_accepted}
use Rattle.texts.specs.declared.text.Answer.TheVariants.{Refused}
use Rattle.texts.specs.Text.{used_by, put_at}
use Rattle.texts.proofs.Laws.{within, text_put, whole_text, decimal_short, line_short}
use Rattle.sheets.specs.Sheet.{letter_of, row_line, row_lines, text_by, sheet_text, most_text, FindsRoom}

letter_short : (c : Class) → length (letter_of c) ≤ 1
letter_short A = omega arith
letter_short B = omega arith

row_short : (number : ℕ) (r : Row) (limit : ℕ) → length (row_line number r limit) ≤ 107
unfolding row_line
row_short number r limit = simp length-append (omega (arith, decimal_short number, letter_short r.class, decimal_short (size_of r), decimal_short (period_of r), decimal_short r.deadline, decimal_short limit))

rows_short : (t : Contents) (k : ℕ) (rs : List Row) → length (row_lines t k rs) ≤ 107 * length rs
unfolding row_lines
rows_short t k [] = omega arith
rows_short t k (r ∷ rs) = rw length-append (omega (arith, row_short k r (bound t r), rows_short t (suc k) rs))

pub finds_room : FindsRoom
unfolding sheet_text
finds_room file = by_outcome (file_check file) refl
  where
    t : Contents
    t = contents (read_file file).table

    by_outcome : (o : Outcome) → file_check file ≡ o → length (text_by o t) ≤ most_text
    by_outcome accepted e = omega (arith, rows_short t 0 t.rows, (accepted_if t (opened_accepted file e).1).ranges.most)
    by_outcome (refused number place) e = omega (arith, line_short (Refused number place))

-- So in a buffer of that many bytes those in use are the file's text, whole.
pub whole_sheet : (file before : List ℕ) {next : ℕ} {after : List ℕ} → most_text ≤ length before → (next ≡ used_by (sheet_text file) 0 before) × (after ≡ put_at (sheet_text file) 0 before) → (next ≤ length before) × (take next after ≡ sheet_text file)
whole_sheet file before room p = (within 0 (sheet_text file) before p.0 (omega arith), whole_text (text_put p (omega (arith, finds_room file))))
