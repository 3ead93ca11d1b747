-- The five calls of a list: what each answers, and the port that it gives.
use Rattle.std.specs.Prelude.{ℕ, ◌+◌, ◌-◌, Bool, true, false, not, ◌&&◌, List, [], ◌∷◌, ◌++◌, ◌≡◌, ℤ, pos, negsuc, leb, ltb, eqb, length, get_or, set, Option, Result, Ok, Err}
use Rattle.table.specs.declared.Class.{Class}
use Rattle.table.specs.declared.Row.{Row}
use Rattle.table.specs.declared.Refusal.{Refusal}
use Rattle.table.specs.declared.Table.{Table}
use Rattle.table.specs.Limits.{most_rows}
use Rattle.table.specs.Wire.{wire_size, size_for, period_of}
use Rattle.table.specs.Rows.{Contents, contents, row_at, in_use, with_row, without_row}
use Rattle.table.specs.Checks.{Outcome, accepted, refused, outcome_of, unless, first}
use Rattle.table.specs.Checks as tables
use Rattle.table.specs.Ranges.{row_ok}
use Rattle.planner.specs.Opening.{slopes_ok, fair_checks, opening}
use Rattle.machine.specs.declared.Frame.{Frame}
use Rattle.machine.specs.declared.Wire.{Wire}
use Rattle.machine.specs.declared.Wire.TheVariants.{Free, Sending}
use Rattle.machine.specs.declared.Denial.{Denial}
use Rattle.machine.specs.declared.Denial.TheVariants.{Broken, NoSuchRow, Payload, Early, BestEffortFull, TooManySteps, PastLastClock, InUse, Busy, Misfit}
use Rattle.machine.specs.declared.Passed.{Passed}
use Rattle.machine.specs.declared.Port.{Port}
use Rattle.machine.specs.declared.After.{After}
use Rattle.machine.specs.Limits.{last_clock, most_steps, best_mark, best_places}
use Rattle.machine.specs.State.{Instant, never, at, State, queue, with_queue, with_best, with_last, patched, fresh, view}
use Rattle.machine.specs.Time.{progress}
use Rattle.machine.specs.Record.{sound}

-- The calls in the lists of demand 3.
pub data Call : Type 0 where
  offer : (row payload : ℕ) → Call
  offer_best : (payload : ℕ) → Call
  advance : (n : ℕ) → Call
  join : (number : ℕ) → Row → Call
  leave : (number : ℕ) → Call

-- What a call answers: an offer, a join or a leave is taken, an advance gives the count passed and the ended frame or none; or it is refused with a number and a place.
pub data Answer : Type 0 where
  taken : Answer
  passed : (n : ℕ) → Option Frame → Answer
  denied : (number place : ℕ) → Answer

-- Early means clock − last taken instant < P; a first frame is never early.
abbrev pub too_soon : Instant → ℕ → ℕ → Bool
too_soon never now period = false
too_soon (at k) now period = ltb (now - k) period

abbrev pub early : State → ℕ → Bool
early s k = too_soon (get_or s.last k never) s.clock (period_of (row_at s.table k))

-- Offer to a row: 18, broken record. 11, no such row. 12, payload above the row's. 13, early.
unfoldable pub offer_check : State → ℕ → ℕ → Outcome
offer_check s k p =
    first
    (unless (sound s) 18 0
    ∷ unless (in_use s.table k) 11 0
    ∷ unless (leb p (row_at s.table k).payload) 12 0
    ∷ unless (not (early s k)) 13 0
    ∷ [])

-- Offer of best effort: 18. 12, payload above the table's. 14, 16 waiting.
unfoldable pub best_check : State → ℕ → Outcome
best_check s p = first (unless (sound s) 18 0 ∷ unless (leb p s.table.header.payload) 12 0 ∷ unless (ltb (length s.best) best_places) 14 0 ∷ [])

-- Advance: 18. 15, n above 65,535. 16, clock + n past its last value.
unfoldable pub advance_check : State → ℕ → Outcome
advance_check s n = first (unless (sound s) 18 0 ∷ unless (leb n most_steps) 15 0 ∷ unless (leb (s.clock + n) last_clock) 16 0 ∷ [])

-- A number that a row may join at: 0 to 31, and not in use.
unfoldable pub is_open : Contents → ℕ → Bool
is_open t k = ltb k most_rows && not (in_use t k)

-- Join: 18. 22, a number in use or above 31. 5, the row out of range or empty, place the number. Then 8, 9, 10 and 20 of the table with the row.
unfoldable pub join_check : State → ℕ → Row → Outcome
join_check s k r = first (unless (sound s) 18 0 ∷ unless (is_open s.table k) 22 0 ∷ unless (row_ok r) 5 k ∷ fair_checks (with_row k r s.table))

-- No frame waits or is on the wire, and both credits are 0.
abbrev pub none_in : List Frame → Bool
none_in [] = true
none_in (f ∷ fs) = false

abbrev pub is_free : Wire → Bool
is_free Free = true
is_free (Sending f left) = false

abbrev pub is_zero : ℤ → Bool
is_zero (pos n) = eqb n 0
is_zero (negsuc n) = false

unfoldable pub quiet : State → Bool
quiet s = (none_in s.a && (none_in s.b && none_in s.best)) && (is_free s.wire && (is_zero s.credita && is_zero s.creditb))

-- Leave: 18. 11, no such row. 21, a frame waiting or on the wire or a credit not 0. 8, the last row of its class.
unfoldable pub leave_check : State → ℕ → Outcome
leave_check s k = first (unless (sound s) 18 0 ∷ unless (in_use s.table k) 11 0 ∷ unless (quiet s) 21 0 ∷ unless (slopes_ok (without_row k s.table)) 8 0 ∷ [])

-- Taken, a row's frame joins its class's queue.
abbrev pub row_frame : State → ℕ → ℕ → Frame
row_frame s k p = record { source = k; size = size_for (row_at s.table k) p; taken = s.clock }

abbrev pub joined : Class → Frame → State → State
joined c f s = with_last (set s.last f.source (at f.taken)) (with_queue c (queue c s ++ f ∷ []) s)

unfoldable pub take_row : ℕ → ℕ → State → State
take_row k p s = joined (row_at s.table k).class (row_frame s k p) s

abbrev pub best_frame : State → ℕ → Frame
best_frame s p = record { source = best_mark; size = wire_size p; taken = s.clock }

unfoldable pub take_best : ℕ → State → State
take_best p s = with_best (s.best ++ best_frame s p ∷ []) s

-- A row joins: the number has no last instant. A row leaves: the number is empty.
unfoldable pub join_row : ℕ → Row → State → State
join_row k r s = patched (with_row k r s.table) (set s.last k never) s

unfoldable pub leave_row : ℕ → State → State
leave_row k s = patched (without_row k s.table) s.last s

-- A refusal changes nothing.
abbrev pub state_by : Outcome → State → State → State
state_by accepted new old = new
state_by (refused n p) new old = old

abbrev pub answer_by : Outcome → Answer → Answer
answer_by accepted a = a
answer_by (refused n p) a = denied n p

-- The port after a call, and its answer.
abbrev pub after : State → Call → State
after s (offer k p) = state_by (offer_check s k p) (take_row k p s) s
after s (offer_best p) = state_by (best_check s p) (take_best p s) s
after s (advance n) = state_by (advance_check s n) (progress n s).state s
after s (join k r) = state_by (join_check s k r) (join_row k r s) s
after s (leave k) = state_by (leave_check s k) (leave_row k s) s

abbrev pub answer : State → Call → Answer
answer s (offer k p) = answer_by (offer_check s k p) taken
answer s (offer_best p) = answer_by (best_check s p) taken
answer s (advance n) = answer_by (advance_check s n) (passed (progress n s).passed (progress n s).ended)
answer s (join k r) = answer_by (join_check s k r) taken
answer s (leave k) = answer_by (leave_check s k) taken

-- The number and the place of each case of the refusal enum.
abbrev pub number_of : Denial → ℕ
number_of Broken = 18
number_of NoSuchRow = 11
number_of Payload = 12
number_of Early = 13
number_of BestEffortFull = 14
number_of TooManySteps = 15
number_of PastLastClock = 16
number_of InUse = 22
number_of Busy = 21
number_of (Misfit r) = tables.number_of r

abbrev pub place_of : Denial → ℕ
place_of Broken = 0
place_of NoSuchRow = 0
place_of Payload = 0
place_of Early = 0
place_of BestEffortFull = 0
place_of TooManySteps = 0
place_of PastLastClock = 0
place_of InUse = 0
place_of Busy = 0
place_of (Misfit r) = tables.place_of r

-- The answer that a result stands for.
abbrev pub offer_answer : Result (Unit {0}) Denial → Answer
offer_answer (Ok u) = taken
offer_answer (Err d) = denied (number_of d) (place_of d)

abbrev pub advance_answer : Result Passed Denial → Answer
advance_answer (Ok x) = passed x.count x.ended
advance_answer (Err d) = denied (number_of d) (place_of d)

-- What a call gives: the machine's answer, the machine's port, the table's places as they were unless a row has joined or left, and at a refusal the whole record as it was. Where a
-- call is not refused the other places that belong to no part are free: a queue's from its count on, the instants of numbers that are not in use, the
-- bounds behind the row count, and after a join or a leave the row places behind it. They may hold anything, and no answer and no part depends on them.
abbrev pub Keeps : Answer → Port → Port → Type 0
Keeps taken p q = Unit {0}
Keeps (passed n e) p q = Unit {0}
Keeps (denied n l) p q = q ≡ p

-- A row has joined or left.
abbrev pub patches : Call → Answer → Bool
patches (offer k p) a = false
patches (offer_best p) a = false
patches (advance n) a = false
patches (join k r) taken = true
patches (join k r) (passed n e) = false
patches (join k r) (denied n p) = false
patches (leave k) taken = true
patches (leave k) (passed n e) = false
patches (leave k) (denied n p) = false

abbrev pub KeepsTable : Bool → Table → Table → Type 0
KeepsTable true t u = Unit {0}
KeepsTable false t u = u ≡ t

pub record Gives (p : Port) (c : Call) (a : Answer) (q : Port) : Type 0 where
  pub answer : a ≡ answer (view p) c
  pub port : view q ≡ after (view p) c
  pub table : KeepsTable (patches c a) p.table q.table
  pub kept : Keeps a p q

-- A record with these parts, and the table's places as they were.
pub record Became (s : State) (p q : Port) : Type 0 where
  pub port : view q ≡ s
  pub table : q.table ≡ p.table

-- The promises of the calls.
abbrev pub Offered : Port → ℕ → ℕ → After (Result (Unit {0}) Denial) → Type 0
Offered p k x r = Gives p (offer k x) (offer_answer r.answer) r.port

abbrev pub OfferedBest : Port → ℕ → After (Result (Unit {0}) Denial) → Type 0
OfferedBest p x r = Gives p (offer_best x) (offer_answer r.answer) r.port

abbrev pub Advanced : Port → ℕ → After (Result Passed Denial) → Type 0
Advanced p n r = Gives p (advance n) (advance_answer r.answer) r.port

abbrev pub Joined : Port → ℕ → Row → After (Result (Unit {0}) Denial) → Type 0
Joined p k x r = Gives p (join k x) (offer_answer r.answer) r.port

abbrev pub Left : Port → ℕ → After (Result (Unit {0}) Denial) → Type 0
Left p k r = Gives p (leave k) (offer_answer r.answer) r.port

-- Opening: the planner's verdict, and the fresh port of the table, which stands in the record as it was handed in; the other places that belong to no part are free
-- here too. At a refusal the port is handed back all the same, with zeros for bounds.
pub record Opened (t : Table) (r : After (Result (Unit {0}) Refusal)) : Type 0 where
  pub verdict : outcome_of r.answer ≡ opening (contents t)
  pub port : view r.port ≡ fresh (contents t)
  pub table : r.port.table ≡ t

-- Such a port is broken, also where the table has empty numbers and would be accepted without them: every call on it answers 18.
abbrev pub RefusedBreaks : Type 0
RefusedBreaks = (t : Contents) (number place : ℕ) → opening t ≡ refused number place → (c : Call) → answer (fresh t) c ≡ denied 18 0
