-- A port kept as bytes between calls: opening a table file into a record's bytes, and one call on a record's bytes.
use Rattle.std.specs.Prelude.{ℕ, true, cond, List, [], ◌∷◌, ◌++◌, ◌≡◌, leb, length, drop, replicate}
use Rattle.std.specs.Option.{is_some}
use Rattle.table.specs.declared.Table.{Table}
use Rattle.table.specs.Rows.{contents}
use Rattle.table.specs.Checks.{Outcome, accepted, unless, first, unless_refused, over}
use Rattle.tablefile.specs.Reading.{read_file}
use Rattle.machine.specs.declared.Port.{Port}
use Rattle.machine.specs.State.{State, fresh}
use Rattle.machine.specs.Calls.{Call, Answer, taken, passed, denied, after, answer}
use Rattle.machine.specs.Effects.{carried_out, cleared_at, Room}
use Rattle.machine.specs.Run.{Event, event, Run, Demand3}
use Rattle.codes.specs.Codes.{code_of, file_check}
use Rattle.recordbytes.specs.Layout.{record_size}
use Rattle.recordbytes.specs.Record.{record_over, state_of, is_record}
use Rattle.recordbytes.specs.Port.{port_from}
use Rattle.recordwrite.specs.Written.{patched as patched_over}
use Rattle.turns.specs.declared.Judged.{Judged}
use Rattle.turns.specs.declared.Judged.TheVariants as judged
use Rattle.callbytes.specs.Calls.{answer_size, read_call, call_or_none, answer_bytes}

-- Bytes that hold a port to which a list of calls has led, from opening by calls that keep their promises; so demand 3 holds of that list.
pub record Reached (t : Table) (es : List Event) (s : List ℕ) : Type 0 where
  pub record_bytes : is_record s ≡ true
  pub run : Run t es (port_from (state_of s))
  pub demand3 : Demand3 (contents t) es (port_from (state_of s))

-- ---- opening a table file into a record's bytes
-- 103, fewer bytes than a record's. Then the file's refusals, then opening's.
unfoldable pub open_check : List ℕ → ℕ → Outcome
open_check file room = first (unless (leb record_size room) 103 0 ∷ file_check file ∷ [])

-- Zeros in as many bytes as a record has, and the bytes behind them as they were.
unfoldable pub cleared : List ℕ → List ℕ
cleared s = replicate record_size 0 ++ drop record_size s

-- The fresh port's parts, and zeros in every word of the record that belongs to none; at a refusal every byte as it was.
pub record OpenedInto (file before after : List ℕ) (r : ℕ) : Type 0 where
  pub code : r ≡ code_of (open_check file (length before))
  pub buffer : after ≡ unless_refused (open_check file (length before)) (record_over (fresh (contents (read_file file).table)) (cleared before)) before
  pub reached : open_check file (length before) ≡ accepted → Reached (read_file file).table [] after

-- ---- a call on a record's bytes
-- 102, a call that can't be read. 103, fewer bytes than an answer's.
unfoldable pub call_check : List ℕ → ℕ → Outcome
call_check call room = first (unless (is_some (read_call call)) 102 0 ∷ unless (leb answer_size room) 103 0 ∷ [])

-- The answer is the machine's; of bytes that are no record it is 18.
unfoldable pub answer_on : List ℕ → Call → Answer
answer_on s c = cond (is_record s) (answer (state_of s) c) (denied 18 0)

-- The bytes afterwards: the parts of the machine's port, and every word that belongs to none of them as it was; at a refusal the same bytes.
abbrev pub bytes_by : Answer → State → List ℕ → List ℕ
bytes_by taken new old = record_over new old
bytes_by (passed n e) new old = record_over new old
bytes_by (denied n p) new old = old

unfoldable pub bytes_after : List ℕ → Call → List ℕ
bytes_after s c = bytes_by (answer_on s c) (after (state_of s) c) s

-- What a call has come to, carried out on the bytes of its port's record: an effect, or the table, the instants and the bounds of a patch.
abbrev pub CarriedOver : Port → Judged → List ℕ → List ℕ → Type 0
CarriedOver p (judged.Effect e) s t = is_record s ≡ true → Room e.change (state_of s) → t ≡ record_over (carried_out e (state_of s)) s
CarriedOver p (judged.Patch x) s t = t ≡ patched_over x.table (cleared_at x.cleared p.last) x.bounds s

-- `saved` and `kept` are the record's bytes before and after, `before` and `after` the answer's buffer.
pub record Called (saved kept call before after : List ℕ) (r : ℕ) : Type 0 where
  pub code : r ≡ code_of (call_check call (length before))
  pub answer : after ≡ over (call_check call (length before)) (answer_bytes (answer_on saved (call_or_none (read_call call)))) before
  pub port : kept ≡ unless_refused (call_check call (length before)) (bytes_after saved (call_or_none (read_call call))) saved
  -- a call on a port that a list has led to makes the list one call longer
  pub reached : call_check call (length before) ≡ accepted → (t : Table) (es : List Event) → Reached t es saved → Reached t (event (call_or_none (read_call call)) (answer_on saved (call_or_none (read_call call))) ∷ es) kept
