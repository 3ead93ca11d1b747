-- The lines of a sheet, piece by piece.
use Prim.Native.Nat.{ℕ}
use mathlib.Core.List.{List, ◌++◌, append_assoc}
use mathlib.Core.Path.{◌≡◌, refl}
use Rattle.table.specs.declared.Row.{Row}
use Rattle.table.specs.Wire.{size_of, period_of}
use Rattle.table.specs.Rows.{contents}
use Rattle.table.specs.Checks.{Outcome}
use Rattle.tablefile.specs.Reading.{read_file}
use Rattle.codes.specs.Codes.{file_check}
use Rattle.texts.specs.Text.{ascii, decimal}
use Rattle.sheets.specs.Sheet.{letter_of, row_line, text_by, sheet_text}

-- A space and a number.
abbrev pub field : ℕ → List ℕ
field n = ascii " " ++ decimal n

regroup : (k s l a b d e z : List ℕ) → k ++ s ++ l ++ s ++ a ++ s ++ b ++ s ++ d ++ s ++ e ++ z ≡ k ++ (s ++ l) ++ (s ++ a) ++ (s ++ b) ++ (s ++ d) ++ (s ++ e) ++ z
regroup k s l a b d e z = simp append_assoc

-- A row's line as it is put.
pub row_text : (number : ℕ) (r : Row) (limit : ℕ) {size period : ℕ} → size ≡ size_of r → period ≡ period_of r → row_line number r limit ≡ decimal number ++ (ascii " " ++ letter_of r.class) ++ field size ++ field period ++ field r.deadline ++ field limit ++ ascii "\n"
unfolding row_line
row_text number r limit es ep = rw (es, ep) (regroup (decimal number) (ascii " ") (letter_of r.class) (decimal (size_of r)) (decimal (period_of r)) (decimal r.deadline) (decimal limit) (ascii "\n"))

-- The text of a file, by its check.
pub of_file : (file : List ℕ) {o : Outcome} → file_check file ≡ o → sheet_text file ≡ text_by o (contents (read_file file).table)
unfolding sheet_text
of_file file e = rw e refl
