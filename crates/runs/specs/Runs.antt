-- What `portrun` makes of its input: the text that it prints, and where that leaves the port and the line.
use Rattle.std.specs.Prelude.{ℕ, ◌*◌, Bool, true, false, cond, ◌&&◌, List, [], ◌∷◌, ◌++◌, ◌≡◌, leb, length}
use Rattle.table.specs.declared.Table.{Table}
use Rattle.machine.specs.State.{State, view}
use Rattle.machine.specs.Calls.{answer, after}
use Rattle.texts.specs.declared.lines.Line.{Line}
use Rattle.texts.specs.declared.lines.Line.TheVariants.{Empty}
use Rattle.texts.specs.declared.lines.Stepped.{Stepped}
use Rattle.texts.specs.declared.lines.Stepped.TheVariants.{More, Whole, Other}
use Rattle.runs.specs.declared.Run.{Run}
use Rattle.runs.specs.declared.Answered.{Answered}
use Rattle.texts.specs.Lines.{step_of}
use Rattle.runs.specs.Answers.{answer_of, call_of}
use Rattle.texts.specs.Text.{line_of, line_size, put_at, used_by}

-- The text printed, the port, the line so far, and whether more is read.
pub record Told : Type 0 where
  pub text : List ℕ
  pub state : State
  pub line : Line
  pub live : Bool

-- A text that is printed first.
abbrev pub printed : List ℕ → Told → Told
printed t r = record { text = t ++ r.text; state = r.state; line = r.line; live = r.live }

-- A byte: the line goes on; or it states a call, which is made and answered; or it is of another form, and nothing more is read.
abbrev pub on_step : (State → Line → Told) → State → Line → Stepped → Told
on_step rest s l (More next) = rest s next
on_step rest s l (Whole c) = printed (line_of (answer_of (answer s (call_of c)))) (rest (after s (call_of c)) Empty)
on_step rest s l Other = record { text = []; state = s; line = l; live = false }

-- The bytes, one after the other.
unfoldable pub told : List ℕ → State → Line → Told
told [] s l = record { text = []; state = s; line = l; live = true }
told (b ∷ bytes) s l = on_step (told bytes) s l (step_of l b)

-- More bytes, behind some that are told already.
abbrev pub going_on : Told → List ℕ → Told
going_on r bytes = cond r.live (printed r.text (told bytes r.state r.line)) r

-- A run by its parts, with nothing printed.
abbrev pub standing : Run → Told
standing r = record { text = []; state = view r.port; line = r.line; live = r.live }

-- Bytes are read if the run goes on and the buffer has room for a line for each. Of bytes that are not read nothing is told.
abbrev pub is_read : Run → List ℕ → List ℕ → Bool
is_read run bytes buffer = leb (line_size * length bytes) (length buffer) && run.live

abbrev pub told_of : Run → List ℕ → List ℕ → Told
told_of run bytes buffer = cond (is_read run bytes buffer) (told bytes (view run.port) run.line) (standing run)

-- A buffer and a run are as it is told: the text stands at the front of the buffer, every other byte is as it was, the count is of the bytes in use; the port has its
-- parts and its table's places, the line and whether more is read are the same. The port's other places are free.
pub record Shows (u : Told) (t : Table) (before after : List ℕ) (r : Answered) : Type 0 where
  pub text : after ≡ put_at u.text 0 before
  pub count : r.count ≡ used_by u.text 0 before
  pub state : view r.run.port ≡ u.state
  pub table : r.run.port.table ≡ t
  pub line : r.run.line ≡ u.line
  pub live : r.run.live ≡ u.live

-- The promise of answering some bytes. Where they are not read the run is as it was, every place.
pub record AnswersTo (run : Run) (bytes before after : List ℕ) (r : Answered) : Type 0 where
  pub shows : Shows (told_of run bytes before) run.port.table before after r
  pub kept : is_read run bytes before ≡ false → r.run ≡ run
