-- A table file that is opened, or refused by one line.
use Rattle.std.specs.Prelude.{ℕ, List, []}
use Rattle.table.specs.Rows.{contents}
use Rattle.table.specs.Checks.{Outcome, accepted, refused}
use Rattle.tablefile.specs.Reading.{read_file}
use Rattle.machine.specs.State.{State, fresh}
use Rattle.machine.specs.Record.{is_accepted}
use Rattle.codes.specs.Codes.{file_check}
use Rattle.texts.specs.declared.lines.Line.TheVariants.{Empty}
use Rattle.texts.specs.declared.text.Answer.TheVariants.{Refused}
use Rattle.texts.specs.Text.{line_of}
use Rattle.runs.specs.declared.Answered.{Answered}
use Rattle.runs.specs.Runs.{Told, Shows}

-- On a refusal one line only: `refused`, number, place.
abbrev pub refusal_text : Outcome → List ℕ
refusal_text accepted = []
refusal_text (refused number place) = line_of (Refused number place)

-- A port at the beginning of a line. After a refusal nothing is read.
abbrev pub begun_by : Outcome → State → Told
begun_by o s = record { text = refusal_text o; state = s; line = Empty; live = is_accepted o }

-- A table file: the refusals of reading, then of opening; and the fresh port of the table that was read.
abbrev pub begun : List ℕ → Told
begun file = begun_by (file_check file) (fresh (contents (read_file file).table))

-- The promise of opening a table file.
abbrev pub Begins : List ℕ → List ℕ → List ℕ → Answered → Type 0
Begins file before after r = Shows (begun file) (read_file file).table before after r
