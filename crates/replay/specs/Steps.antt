-- What the private functions promise each other. No public promise cites this file.
use Rattle.std.specs.Prelude.{ℕ, List, ◌≡◌, Result, Ok, Err}
use Rattle.table.specs.Rows.{Contents}
use Rattle.table.specs.Checks.{Outcome, accepted, refused, over}
use Rattle.machine.specs.declared.Port.{Port}
use Rattle.machine.specs.State.{fresh, view}
use Rattle.replay.specs.declared.Fault.{Fault}
use Rattle.replay.specs.declared.Fault.TheVariants.{Odd, Unreadable, Room}
use Rattle.replay.specs.List.{events_of, answers_of}

abbrev pub outcome_of : Fault → Outcome
outcome_of Odd = refused 101 0
outcome_of (Unreadable k) = refused 102 k
outcome_of Room = refused 103 0

abbrev pub checked_by : Result (Unit {0}) Fault → Outcome
checked_by (Ok x) = accepted
checked_by (Err f) = outcome_of f

-- All calls on a fresh port.
abbrev pub Listed : Port → List ℕ → List ℕ → List ℕ → Type 0
Listed p calls before after = (t : Contents) → view p ≡ fresh t → after ≡ over accepted (answers_of (events_of t calls)) before
