-- What the calls on byte slices return: an outcome as one number, and the check of a table file that is opened.
use Rattle.std.specs.Prelude.{ℕ, ◌+◌, ◌*◌, min, List, [], ◌∷◌}
use Rattle.table.specs.Rows.{contents}
use Rattle.table.specs.Checks.{Outcome, accepted, refused, first}
use Rattle.planner.specs.Opening.{opening}
use Rattle.tablefile.specs.Reading.{read_file}

-- An outcome as one number: 0, or the refusal's number and 256 times its place, where a place above the largest counts as that.
abbrev pub most_place : ℕ
most_place = 4294967295

abbrev pub code_of : Outcome → ℕ
code_of accepted = 0
code_of (refused number place) = number + 256 * min place most_place

-- Of a call that writes a file: where that is done, 256 times the file's length.
abbrev pub length_code : Outcome → ℕ → ℕ
length_code accepted length = 256 * min length most_place
length_code (refused number place) length = code_of (refused number place)

-- A table file that is opened: the file's refusals, then opening's.
unfoldable pub file_check : List ℕ → Outcome
file_check file = first ((read_file file).outcome ∷ opening (contents (read_file file).table) ∷ [])
