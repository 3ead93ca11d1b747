-- What a call comes to: its answer, and of the port what it changes. It is decided first, from a record that stays as it is, and carried out afterwards. An offer or an advance comes to
-- an effect, a join or a leave, which changes the table, to a patch.
use Rattle.std.specs.Prelude.{ℕ, ◌≤◌, ◌<◌, true, cond, List, [], ◌∷◌, ◌++◌, ◌≡◌, ltb, length, set, Result, Ok, Err, Option, Some, None}
use Rattle.table.specs.declared.Class.TheVariants.{A, B}
use Rattle.table.specs.Limits.{most_rows, class_places}
use Rattle.table.specs.Rows.{is_there, row_at}
use Rattle.machine.specs.declared.Frame.{Frame}
use Rattle.machine.specs.declared.Change.{Change}
use Rattle.machine.specs.declared.Change.TheVariants.{LeftA, LeftB, LeftBest, JoinedA, JoinedB, JoinedBest}
use Rattle.machine.specs.declared.Effect.{Effect}
use Rattle.machine.specs.declared.Passed.{Passed}
use Rattle.machine.specs.declared.Denial.{Denial}
use Rattle.machine.specs.declared.Patch.{Patch}
use Rattle.machine.specs.declared.Port.{Port}
use Rattle.machine.specs.Limits.{best_places}
use Rattle.machine.specs.State.{State, with_queue, with_best, view}
use Rattle.machine.specs.Time.{behind_head}
use Rattle.machine.specs.Calls.{Call, Answer, taken, passed, denied, joined, answer, after, number_of, place_of, Gives}

-- The answer of a call that is not refused: it is taken, or has passed byte-times; and of any call.
abbrev pub passed_answer : Option Passed → Answer
passed_answer None = taken
passed_answer (Some x) = passed x.count x.ended

abbrev pub reply_answer : Result (Option Passed) Denial → Answer
reply_answer (Ok x) = passed_answer x
reply_answer (Err d) = denied (number_of d) (place_of d)

-- The port with a queue changed: its head has left it, or a frame has joined it. A row's frame sets the row's last instant.
abbrev pub changed_by : Option Change → State → State
changed_by None s = s
changed_by (Some LeftA) s = with_queue A (behind_head s.a) s
changed_by (Some LeftB) s = with_queue B (behind_head s.b) s
changed_by (Some LeftBest) s = with_best (behind_head s.best) s
changed_by (Some (JoinedA f)) s = joined A f s
changed_by (Some (JoinedB f)) s = joined B f s
changed_by (Some (JoinedBest f)) s = with_best (s.best ++ f ∷ []) s

-- And with another clock, other credits and another wire.
abbrev pub moved_to : Effect → State → State
moved_to e s = record { table = s.table; bounds = s.bounds; clock = e.clock; credita = e.credita; creditb = e.creditb; a = s.a; b = s.b; best = s.best; last = s.last; wire = e.wire }

abbrev pub carried_out : Effect → State → State
carried_out e s = moved_to e (changed_by e.change s)

-- A record has the places for a change: no more frames wait than there are places, one less where one joins, and the joining frame's row is there and has a place for its instant.
abbrev pub HasRow : Frame → State → Type 0
HasRow f s = (f.source < most_rows) × (f.source < length s.last) × (is_there (row_at s.table f.source) ≡ true)

abbrev pub Room : Option Change → State → Type 0
Room None s = Unit {0}
Room (Some LeftA) s = length s.a ≤ class_places
Room (Some LeftB) s = length s.b ≤ class_places
Room (Some LeftBest) s = length s.best ≤ best_places
Room (Some (JoinedA f)) s = (length s.a < class_places) × HasRow f s
Room (Some (JoinedB f)) s = (length s.b < class_places) × HasRow f s
Room (Some (JoinedBest f)) s = length s.best < best_places

-- An effect that changes nothing.
pub record Stays (p : Port) (e : Effect) : Type 0 where
  pub clock : e.clock ≡ p.clock
  pub credita : e.credita ≡ p.credita
  pub creditb : e.creditb ≡ p.creditb
  pub wire : e.wire ≡ p.wire
  pub change : e.change ≡ None

-- What a call comes to on a record that does not refuse it: the machine's answer, and, carried out, the machine's port.
pub record Comes (p : Port) (c : Call) (e : Effect) : Type 0 where
  pub answer : passed_answer e.passed ≡ answer (view p) c
  pub port : carried_out e (view p) ≡ after (view p) c
  pub room : Room e.change (view p)

-- A call that a record refuses: the machine's answer, and the port as it was.
pub record Denied (p : Port) (c : Call) (d : Denial) : Type 0 where
  pub answer : denied (number_of d) (place_of d) ≡ answer (view p) c
  pub port : view p ≡ after (view p) c

abbrev pub Judges : Port → Call → Result Effect Denial → Type 0
Judges p c (Ok e) = Comes p c e
Judges p c (Err d) = Denied p c d

-- What a join or a leave comes to: a record with the table and the bounds of a patch, and without the last instant that it clears.
abbrev pub cleared_at : Option ℕ → List (Option ℕ) → List (Option ℕ)
cleared_at None ls = ls
cleared_at (Some k) ls = cond (ltb k most_rows) (set ls k None) ls

abbrev pub patched_by : Patch → Port → Port
patched_by x p = record { table = x.table; clock = p.clock; credita = p.credita; creditb = p.creditb; a = p.a; b = p.b; best = p.best; last = cleared_at x.cleared p.last; bounds = x.bounds; wire = p.wire }

-- The patch that a call comes to on a record that does not refuse it: carried out, it gives what the call gives.
abbrev pub Patches : Port → Call → Result Patch Denial → Type 0
Patches p c (Ok x) = Gives p c taken (patched_by x p)
Patches p c (Err d) = Denied p c d
