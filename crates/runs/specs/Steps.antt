-- What the private functions promise each other. No public promise cites this file.
use Rattle.std.specs.Prelude.{ℕ, List, ◌≡◌, Result, Ok, Err}
use Rattle.table.specs.Rows.{contents}
use Rattle.table.specs.Checks.{Outcome, accepted}
use Rattle.tablefile.specs.declared.Unopened.{Unopened}
use Rattle.tablefile.specs.Reading.{unopened_by, read_file}
use Rattle.codes.specs.Codes.{file_check}
use Rattle.machine.specs.State.{fresh, view}
use Rattle.machine.specs.declared.Port.{Port}
use Rattle.machine.specs.Record.{is_accepted}
use Rattle.machine.specs.Calls.{Answer}
use Rattle.texts.specs.Text.{put_at, used_by}
use Rattle.machine.specs.declared.After.{After}
use Rattle.texts.specs.declared.text.Answer as text
use Rattle.runs.specs.declared.opened.Said.{Said}
use Rattle.runs.specs.Answers.{answer_of}
use Rattle.runs.specs.Opened.{refusal_text}

-- What a call gives back, with the answer as it is printed.
abbrev pub after_call : Answer → Port → After text.Answer
after_call a p = record { answer = answer_of a; port = p }

-- The text of an outcome stands at the front of a buffer, and nothing is read after a refusal.
pub record Says (o : Outcome) (before after : List ℕ) (r : Said) : Type 0 where
  pub text : after ≡ put_at (refusal_text o) 0 before
  pub count : r.count ≡ used_by (refusal_text o) 0 before
  pub live : r.live ≡ is_accepted o

-- The outcome of a file that may be refused.
abbrev pub tried : Result (Unit {0}) Unopened → Outcome
tried (Ok u) = accepted
tried (Err e) = unopened_by e

-- A file's check, and the fresh port of its table, refused or not.
pub record FileTried (file : List ℕ) (r : After (Result (Unit {0}) Unopened)) : Type 0 where
  pub answer : tried r.answer ≡ file_check file
  pub port : view r.port ≡ fresh (contents (read_file file).table)
  pub table : r.port.table ≡ (read_file file).table
