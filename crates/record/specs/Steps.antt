-- What the private functions of the record check promise each other. No public promise cites this file.
use Rattle.std.specs.Prelude.{ℕ, ◌≤◌, Bool, cond, ◌&&◌, List, [], ◌∷◌, ◌++◌, ◌≡◌, eqb, length, take, Option}
use Rattle.table.specs.declared.Class.TheVariants.{A, B}
use Rattle.planner.specs.Sums.{best_size}
use Rattle.machine.specs.declared.Port.{Port}
use Rattle.machine.specs.State.{Instant, never, instant_of, State, view}
use Rattle.machine.specs.Record.{all_of, on_sending, sending, each_row, clock_sound, credit_sound, rows_taken}
use Rattle.frames.specs.Tests.{frame_test, best_test, sending_test}
use Rattle.tally.specs.Rows.{held_test}

-- The clock and the credits of a record.
unfoldable pub numbers_test : State → Bool
numbers_test s = clock_sound s && (credit_sound A s && credit_sound B s)

-- The best-effort frames that wait, and the frame on the wire.
unfoldable pub others_test : List ℕ → State → Bool
others_test limits s = all_of (best_test (best_size s.table) s.clock) s.best && on_sending (sending_test s.table limits s.clock) s.wire

-- The frames that wait in the class queues, each by the test of its place and its row's limit.
unfoldable pub waiting_test : List ℕ → State → Bool
waiting_test limits s = all_of (frame_test A s.table limits s.clock) s.a && all_of (frame_test B s.table limits s.clock) s.b

-- The instants of numbers by their bounds: one without a bound is empty, and has none.
abbrev pub instant_if : ℕ → Option ℕ → Instant
instant_if bound l = cond (eqb bound 0) never (instant_of l)

unfoldable pub instants_by : List ℕ → List (Option ℕ) → List Instant
instants_by [] ls = []
instants_by (b ∷ bs) [] = never ∷ instants_by bs []
instants_by (b ∷ bs) (l ∷ ls) = instant_if b l ∷ instants_by bs ls

-- Some places hold the bounds of a record's numbers: by these it has its instants.
pub record Bounded (p : Port) (made : List ℕ) : Type 0 where
  pub long : p.table.count ≤ length made
  pub last : instants_by (take p.table.count made) p.last ≡ (view p).last

-- The rows in use of a record: no instant after the clock, no frame in a class queue that may not be there, no row with more frames than it may have, two of them too near or the
-- newest not at its last instant.
unfoldable pub rows_test : List ℕ → State → Bool
rows_test limits s = rows_taken s && (waiting_test limits s && each_row (held_test s.table limits s.last (sending s.wire ++ (s.a ++ s.b))) s)
