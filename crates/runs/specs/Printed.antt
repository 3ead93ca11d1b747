-- All that `portrun` prints of a table file and of an input, and that it is what a run gives.
use Rattle.std.specs.Prelude.{ℕ, List, [], ◌∷◌, ◌++◌, ◌≡◌}
use Rattle.table.specs.Rows.{contents}
use Rattle.table.specs.Checks.{accepted, refused}
use Rattle.tablefile.specs.Reading.{read_file}
use Rattle.machine.specs.State.{view}
use Rattle.machine.specs.Calls.{Call}
use Rattle.machine.specs.Run.{Event, event, answered, Ran}
use Rattle.codes.specs.Codes.{file_check}
use Rattle.texts.specs.declared.lines.Line.{Line}
use Rattle.texts.specs.declared.lines.Line.TheVariants.{Empty}
use Rattle.texts.specs.declared.lines.Stepped.{Stepped}
use Rattle.texts.specs.declared.lines.Stepped.TheVariants.{More, Whole, Other}
use Rattle.texts.specs.declared.text.Answer.TheVariants.{Refused}
use Rattle.texts.specs.Lines.{step_of}
use Rattle.texts.specs.Text.{line_of}
use Rattle.runs.specs.Answers.{answer_of, call_of}
use Rattle.runs.specs.Runs.{Told, going_on}
use Rattle.runs.specs.Opened.{begun}

-- The calls that some bytes state, the newest first, in front of those that came before them. A line of another form ends them.
abbrev pub on_call : (Line → List Call → List Call) → List Call → Stepped → List Call
on_call rest cs (More next) = rest next cs
on_call rest cs (Whole c) = rest Empty (call_of c ∷ cs)
on_call rest cs Other = cs

unfoldable pub calls_from : List ℕ → Line → List Call → List Call
calls_from [] l cs = cs
calls_from (b ∷ bytes) l cs = on_call (calls_from bytes) cs (step_of l b)

-- The calls of an input, with the machine's answers, on the fresh port of a table file.
abbrev pub events_of : List ℕ → List ℕ → List Event
events_of file bytes = answered (contents (read_file file).table) (calls_from bytes Empty [])

-- A line for each, the oldest first.
abbrev pub text_of : List Event → List ℕ
text_of [] = []
text_of (event c a ∷ es) = text_of es ++ line_of (answer_of a)

-- All that is printed once some bytes are read, and where that leaves the port and the line.
abbrev pub prints : List ℕ → List ℕ → Told
prints file bytes = going_on (begun file) bytes

-- What is printed is what a run gives: the calls that were read are a run, demand 3 holds of it, its lines are the text, and its port is the one that is told.
pub record PrintsRun (file bytes : List ℕ) : Type 0 where
  pub ran : Ran (read_file file).table (events_of file bytes)
  pub text : (prints file bytes).text ≡ text_of (events_of file bytes)
  pub port : (prints file bytes).state ≡ view ran.port

-- So it is of every file that is accepted, whatever was read.
abbrev pub EveryRead : Type 0
EveryRead = (file bytes : List ℕ) → file_check file ≡ accepted → PrintsRun file bytes

-- And of a whole input, whose end ends its last line.
abbrev pub ended : List ℕ → List ℕ
ended input = input ++ 10 ∷ []

abbrev pub EveryInput : Type 0
EveryInput = (file input : List ℕ) → file_check file ≡ accepted → PrintsRun file (ended input)

-- Of a file that is refused one line is printed.
abbrev pub EveryRefusal : Type 0
EveryRefusal = (file bytes : List ℕ) (number place : ℕ) → file_check file ≡ refused number place → (prints file bytes).text ≡ line_of (Refused number place)
