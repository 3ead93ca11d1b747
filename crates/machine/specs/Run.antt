-- Demand 3: what is promised of every list of calls from a fresh port.
use Rattle.std.specs.Prelude.{ℕ, ◌+◌, ◌≤◌, max, Bool, true, false, not, cond, ◌&&◌, List, [], ◌∷◌, ◌≡◌, eqb, length, Some, None, Result}
use Rattle.table.specs.declared.Class.{Class}
use Rattle.table.specs.declared.Refusal.{Refusal}
use Rattle.table.specs.declared.Table.{Table}
use Rattle.table.specs.Wire.{size_for, period_of}
use Rattle.table.specs.Rows.{Contents, contents, row_at, InUse, with_row, without_row}
use Rattle.table.specs.Checks.{accepted}
use Rattle.planner.specs.Bound.{bound, bounds_of}
use Rattle.planner.specs.Opening.{opening}
use Rattle.machine.specs.declared.Frame.{Frame}
use Rattle.machine.specs.declared.Port.{Port}
use Rattle.machine.specs.declared.After.{After}
use Rattle.machine.specs.Limits.{class_places}
use Rattle.machine.specs.State.{Instant, never, at, State, queue, fresh, view}
use Rattle.machine.specs.Calls.{Call, offer, offer_best, advance, join, leave, Answer, taken, passed, denied, too_soon, after, answer, patches, Gives, Opened}

-- A call with the answer that it gave. A list of them has the newest first.
pub data Event : Type 0 where
  event : Call → Answer → Event

-- A run: a list of calls with the answers they gave, tied from record to record by what the calls promise, from a record that opening gave for an accepted table.
pub data Run (t : Table) : List Event → Port → Type 0 where
  opened : {r : After (Result (Unit {0}) Refusal)} → Opened t r → opening (contents t) ≡ accepted → Run t [] r.port
  called : {es : List Event} {p q : Port} {c : Call} {a : Answer} → Run t es p → Gives p c a q → Run t (event c a ∷ es) q

-- The clock stands at the sum of the counts passed that the list's advances have given; a refused call adds nothing.
abbrev pub passed_by : Answer → ℕ
passed_by taken = 0
passed_by (passed n e) = n
passed_by (denied n p) = 0

abbrev pub clock_of : List Event → ℕ
clock_of [] = 0
clock_of (event c a ∷ es) = passed_by a + clock_of es

-- The byte-time machine started fresh and fed with the list's calls alone, and whether it gives the list's answers.
abbrev pub machine : Contents → List Event → State
machine t [] = fresh t
machine t (event c a ∷ es) = after (machine t es) c

abbrev pub AsMachine : Contents → List Event → Type 0
AsMachine t [] = Unit {0}
AsMachine t (event c a ∷ es) = (a ≡ answer (machine t es) c) × AsMachine t es

-- Some calls, the newest first, with the answers that the machine gives.
abbrev pub answered : Contents → List Call → List Event
answered t [] = []
answered t (c ∷ cs) = event c (answer (machine t (answered t cs)) c) ∷ answered t cs

-- The table after a list, by the list alone: with the rows that have joined, and without those that have left.
abbrev pub table_after : Call → Answer → Contents → Contents
table_after (offer k p) a t = t
table_after (offer_best p) a t = t
table_after (advance n) a t = t
table_after (join k r) taken t = with_row k r t
table_after (join k r) (passed n e) t = t
table_after (join k r) (denied n p) t = t
table_after (leave k) taken t = without_row k t
table_after (leave k) (passed n e) t = t
table_after (leave k) (denied n p) t = t

abbrev pub table_of : Contents → List Event → Contents
table_of t [] = t
table_of t (event c a ∷ es) = table_after c a (table_of t es)

-- The bound that the row at a number has after a list.
abbrev pub bound_in : Contents → List Event → ℕ → ℕ
bound_in t es row = bound (table_of t es) (row_at (table_of t es) row)

-- An event that happened, with the list before it.
pub data Happened (e : Event) (before : List Event) : List Event → Type 0 where
  now : Happened e before (e ∷ before)
  since : {f : Event} {es : List Event} → Happened e before es → Happened e before (f ∷ es)

-- The row at a number leaves.
abbrev pub leaves : ℕ → Event → Bool
leaves row (event (offer k p) a) = false
leaves row (event (offer_best p) a) = false
leaves row (event (advance n) a) = false
leaves row (event (join k r) a) = false
leaves row (event (leave k) taken) = eqb k row
leaves row (event (leave k) (passed n e)) = false
leaves row (event (leave k) (denied n p)) = false

-- It has not left since an event.
abbrev pub stays : ℕ → {e : Event} {before es : List Event} → Happened e before es → Bool
stays row now = true
stays row (since {f = f} h) = stays row h && not (leaves row f)

-- The largest bound that it has had since: up to now, or until it left.
abbrev pub limit : Contents → ℕ → {e : Event} {before es : List Event} → Happened e before es → ℕ
limit t row {before = before} now = bound_in t before row
limit t row (since {f = f} {es = es} h) = cond (stays row h && not (leaves row f)) (max (limit t row h) (bound_in t (f ∷ es) row)) (limit t row h)

-- The instant of a row's last taken frame, by the list alone: the clock at the newest offer to the row that was taken. A row that has just joined has none.
abbrev pub newest : Bool → ℕ → Instant → Instant
newest true k i = at k
newest false k i = i

abbrev pub last_taken : ℕ → List Event → Instant
last_taken k [] = never
last_taken k (event (offer row p) taken ∷ es) = newest (eqb row k) (clock_of es) (last_taken k es)
last_taken k (event (offer row p) (passed n e) ∷ es) = last_taken k es
last_taken k (event (offer row p) (denied n l) ∷ es) = last_taken k es
last_taken k (event (offer_best p) a ∷ es) = last_taken k es
last_taken k (event (advance n) a ∷ es) = last_taken k es
last_taken k (event (join j r) taken ∷ es) = cond (eqb j k) never (last_taken k es)
last_taken k (event (join j r) (passed n e) ∷ es) = last_taken k es
last_taken k (event (join j r) (denied n l) ∷ es) = last_taken k es
last_taken k (event (leave j) a ∷ es) = last_taken k es

-- An advance reports a frame if the ended frame in its answer has that frame's row, instant and wire size.
abbrev pub named : ℕ → ℕ → ℕ → Frame → Bool
named row instant size f = (eqb f.source row && eqb f.taken instant) && eqb f.size size

abbrev pub count : Bool → ℕ
count true = 1
count false = 0

abbrev pub reported_by : ℕ → ℕ → ℕ → Answer → ℕ
reported_by row instant size taken = 0
reported_by row instant size (passed n None) = 0
reported_by row instant size (passed n (Some f)) = count (named row instant size f)
reported_by row instant size (denied n p) = 0

-- How many advances of a list report it.
abbrev pub reports : ℕ → ℕ → ℕ → List Event → ℕ
reports row instant size [] = 0
reports row instant size (event c a ∷ es) = reported_by row instant size a + reports row instant size es

-- The list is one of the byte-time machine: its answers, its clock and its port. The table follows from the list, and the bounds are those of the table.
pub record Faithful (t : Contents) (es : List Event) (p : Port) : Type 0 where
  pub answers : AsMachine t es
  pub clock : (view p).clock ≡ clock_of es
  pub port : view p ≡ machine t es
  pub table : (view p).table ≡ table_of t es
  pub bounds : (view p).bounds ≡ bounds_of (table_of t es)

-- The wire size of a frame, worked out from the payload offered and the row in place at its offer.
abbrev pub size_at : Contents → List Event → ℕ → ℕ → ℕ
size_at t before row payload = size_for (row_at (table_of t before) row) payload

-- Of a frame taken by an offer to a row with a payload, after the events `before`: its instant is the clock at that offer.
pub record Served (t : Contents) (es : List Event) (row payload : ℕ) (before : List Event) (h : Happened (event (offer row payload) taken) before es) : Type 0 where
  -- at most one advance reports it
  pub once : reports row (clock_of before) (size_at t before row payload) es ≤ 1
  -- that one comes after the offer, and leaves the clock no later than the frame's instant plus the largest bound that its row has had up to then
  pub in_time : (c : Call) (a : Answer) (earlier : List Event) → Happened (event c a) earlier es → reported_by row (clock_of before) (size_at t before row payload) a ≡ 1 → (g : Happened (event (offer row payload) taken) before (event c a ∷ earlier)) × (clock_of (event c a ∷ earlier) ≤ clock_of before + limit t row g)
  -- once the clock is at its instant plus the largest bound that its row has had, exactly one has
  pub reported : clock_of before + limit t row h ≤ clock_of es → reports row (clock_of before) (size_at t before row payload) es ≡ 1
  -- and if its row has left, exactly one has
  pub departed : stays row h ≡ false → reports row (clock_of before) (size_at t before row payload) es ≡ 1

-- Demand 3, of a list of calls with their answers, and the record that it leads to.
pub record Demand3 (t : Contents) (es : List Event) (p : Port) : Type 0 where
  pub faithful : Faithful t es p
  -- every taken frame is served
  pub served : (row payload : ℕ) (before : List Event) (h : Happened (event (offer row payload) taken) before es) → Served t es row payload before h
  -- no more frames of a class wait than its queue has places
  pub places : (c : Class) → length (queue c (view p)) ≤ class_places
  -- no call meets 18
  pub unbroken : (c : Call) (place : ℕ) (before : List Event) → Happened (event c (denied 18 place)) before es → ⊥
  -- every offer to a row which 11, 12 and 13, judged by their rules, let pass is taken
  pub space : (row payload : ℕ) (a : Answer) (before : List Event) → Happened (event (offer row payload) a) before es → InUse (table_of t before) row → payload ≤ (row_at (table_of t before) row).payload → too_soon (last_taken row before) (clock_of before) (period_of (row_at (table_of t before) row)) ≡ false → a ≡ taken

-- A list that ran: it is a run, from opening by calls that keep their promises, and demand 3 holds of it.
pub record Ran (t : Table) (es : List Event) : Type 0 where
  pub port : Port
  pub run : Run t es port
  pub demand3 : Demand3 (contents t) es port

-- Demand 3 holds of every run.
abbrev pub EveryRun : Type 0
EveryRun = (t : Table) (es : List Event) (p : Port) → Run t es p → Demand3 (contents t) es p

abbrev pub UnlessPatched : Bool → Type 0 → Type 0
UnlessPatched true P = Unit {0}
UnlessPatched false P = P

-- A table record that has the places of the one that was opened, unless a row has joined or left.
abbrev pub SameTable : Table → List Event → Table → Type 0
SameTable t [] u = u ≡ t
SameTable t (event c a ∷ es) u = UnlessPatched (patches c a) (SameTable t es u)

-- Of an accepted table every list of calls, answered by the machine, is a run, to every record with the parts of the machine's port and, where no row has joined or left, the
-- table. There is such a record, and demand 3 holds of the list.
abbrev pub EveryList : Type 0
EveryList = (t : Table) → opening (contents t) ≡ accepted → (cs : List Call) (p : Port) → view p ≡ machine (contents t) (answered (contents t) cs) → SameTable t (answered (contents t) cs) p.table → Run t (answered (contents t) cs) p

abbrev pub EveryListRan : Type 0
EveryListRan = (t : Table) → opening (contents t) ≡ accepted → (cs : List Call) → Ran t (answered (contents t) cs)
