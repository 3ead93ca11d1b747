-- A list of calls replayed on the port of a table file: 72 bytes a call, 40 bytes an answer.
use Rattle.std.specs.Prelude.{ℕ, zero, suc, ◌*◌, ◌/◌, ◌%◌, Bool, List, [], ◌∷◌, ◌++◌, ◌≡◌, leb, eqb, length, take, drop, Option, Some, None}
use Rattle.std.specs.Option.{is_none}
use Rattle.std.specs.List.{find, range_with_len}
use Rattle.table.specs.Rows.{Contents, contents}
use Rattle.table.specs.Checks.{Outcome, accepted, refused, unless, first, over}
use Rattle.tablefile.specs.Reading.{read_file}
use Rattle.machine.specs.Calls.{Call}
use Rattle.machine.specs.Run.{Event, event, answered, Ran}
use Rattle.codes.specs.Codes.{code_of, file_check}
use Rattle.callbytes.specs.declared.Asked.{Asked}
use Rattle.callbytes.specs.Calls.{call_size, answer_size, read_call, call_or_none, answer_bytes}

-- The call of number i, if it can be read.
unfoldable pub asked_at : List ℕ → ℕ → Option Asked
asked_at calls i = read_call (take call_size (drop (call_size * i) calls))

abbrev pub call_at : List ℕ → ℕ → Call
call_at calls i = call_or_none (asked_at calls i)

abbrev pub count_of : List ℕ → ℕ
count_of calls = length calls / call_size

abbrev pub is_unreadable : List ℕ → ℕ → Bool
is_unreadable calls i = is_none (asked_at calls i)

-- The first of n calls that can't be read.
abbrev pub first_unreadable : List ℕ → ℕ → Option ℕ
first_unreadable calls n = find (is_unreadable calls) (range_with_len 0 n)

abbrev pub read_check : Option ℕ → Outcome
read_check (Some k) = refused 102 k
read_check None = accepted

-- 101, no whole number of calls. 102, a call that can't be read; the place is its number. 103, fewer than 40 bytes an answer.
unfoldable pub list_check : List ℕ → ℕ → Outcome
list_check calls room =
    first
    (unless (eqb (length calls % call_size) 0) 101 0
    ∷ read_check (first_unreadable calls (count_of calls))
    ∷ unless (leb (answer_size * count_of calls) room) 103 0
    ∷ [])

-- Then the file's refusals, then opening's.
unfoldable pub replay_check : List ℕ → List ℕ → ℕ → Outcome
replay_check file calls room = first (list_check calls room ∷ file_check file ∷ [])

-- The first n calls, the newest first.
unfoldable pub calls_of : List ℕ → ℕ → List Call
calls_of calls zero = []
calls_of calls (suc n) = call_at calls n ∷ calls_of calls n

-- All of them, with the machine's answers, on the fresh port of a table.
abbrev pub events_of : Contents → List ℕ → List Event
events_of t calls = answered t (calls_of calls (count_of calls))

-- The bytes of the answers, the oldest first.
abbrev pub answers_of : List Event → List ℕ
answers_of [] = []
answers_of (event c a ∷ es) = answers_of es ++ answer_bytes a

-- The promise of a replay. The answers stand at the front of the buffer. The list with these answers ran: it is a run, and demand 3 holds of it.
pub record Replayed (file calls before after : List ℕ) (r : ℕ) : Type 0 where
  pub code : r ≡ code_of (replay_check file calls (length before))
  pub buffer : after ≡ over (replay_check file calls (length before)) (answers_of (events_of (contents (read_file file).table) calls)) before
  pub ran : replay_check file calls (length before) ≡ accepted → Ran (read_file file).table (events_of (contents (read_file file).table) calls)
