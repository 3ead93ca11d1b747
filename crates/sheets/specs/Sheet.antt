-- The text that `portsheet` prints for a table file: its sheet, or one line if the file is refused.
use Rattle.std.specs.Prelude.{ℕ, suc, ◌≤◌, ◌<◌, List, [], ◌∷◌, ◌++◌, ◌≡◌, length, take}
use Rattle.table.specs.declared.Class.{Class}
use Rattle.table.specs.declared.Class.TheVariants.{A, B}
use Rattle.table.specs.declared.Row.{Row}
use Rattle.table.specs.Wire.{size_of, period_of}
use Rattle.table.specs.Rows.{Contents, contents}
use Rattle.table.specs.Checks.{Outcome, accepted, refused}
use Rattle.planner.specs.Bound.{bound}
use Rattle.tablefile.specs.Reading.{read_file}
use Rattle.tablefile.specs.Front.{most_file}
use Rattle.codes.specs.Codes.{file_check}
use Rattle.texts.specs.declared.text.Answer.TheVariants.{Refused}
use Rattle.texts.specs.Text.{ascii, decimal, line_of}

abbrev pub heading : List ℕ
heading = ascii "row class wire period deadline bound\n"

abbrev pub letter_of : Class → List ℕ
letter_of A = ascii "A"
letter_of B = ascii "B"

-- A row's line: its number and class letter; after them bytes on the wire, then three byte-time counts, period, deadline and the bound that is handed in; single spaces between.
unfoldable pub row_line : ℕ → Row → ℕ → List ℕ
row_line number r limit =
    decimal number
    ++ ascii " "
    ++ letter_of r.class
    ++ ascii " "
    ++ decimal (size_of r)
    ++ ascii " "
    ++ decimal (period_of r)
    ++ ascii " "
    ++ decimal r.deadline
    ++ ascii " "
    ++ decimal limit
    ++ ascii "\n"

-- The lines of rows that are numbered from k on, each with its bound in the table.
unfoldable pub row_lines : Contents → ℕ → List Row → List ℕ
row_lines t k [] = []
row_lines t k (r ∷ rs) = row_line k r (bound t r) ++ row_lines t (suc k) rs

-- An accepted table's heading and rows; on a refusal one line only: `refused`, number, place.
abbrev pub text_by : Outcome → Contents → List ℕ
text_by accepted t = heading ++ row_lines t 0 t.rows
text_by (refused number place) t = line_of (Refused number place)

-- The text of a file: a refusal is reading's or else opening's.
unfoldable pub sheet_text : List ℕ → List ℕ
sheet_text file = text_by (file_check file) (contents (read_file file).table)

-- The program's buffer has 4,096 bytes, and no file's text is longer.
abbrev pub most_text : ℕ
most_text = 4096

abbrev pub FindsRoom : Type 0
FindsRoom = (file : List ℕ) → length (sheet_text file) ≤ most_text

-- Who has read more bytes than a table file has knows the text of the whole, however much follows.
abbrev pub FrontDecides : Type 0
FrontDecides = (k : ℕ) (input : List ℕ) → most_file < k → sheet_text (take k input) ≡ sheet_text input
