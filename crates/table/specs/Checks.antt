-- Outcomes, and checks in the order given, of which the first that fails decides.
use Rattle.std.specs.Prelude.{ℕ, suc, Bool, true, false, cond, List, [], ◌∷◌, ◌++◌, leb, length, drop, Result, Ok, Err}
use Rattle.table.specs.declared.Class.{Class}
use Rattle.table.specs.declared.Class.TheVariants.{A, B}
use Rattle.table.specs.declared.Row.{Row}
use Rattle.table.specs.declared.Refusal.{Refusal}
use Rattle.table.specs.declared.Refusal.TheVariants.{RowCount, Value, Slopes, Shares, Deadline, Frames}

-- What an operation says: yes, or no with a number and a place.
pub data Outcome : Type 0 where
  accepted : Outcome
  refused : (number place : ℕ) → Outcome

-- The number and the place of each case of the refusal enum.
abbrev pub number_of : Refusal → ℕ
number_of RowCount = 3
number_of (Value p) = 5
number_of Slopes = 8
number_of (Shares c) = 9
number_of (Deadline k) = 10
number_of (Frames c) = 20

-- Class A is place 0, class B place 1.
abbrev pub place_of_class : Class → ℕ
place_of_class A = 0
place_of_class B = 1

abbrev pub place_of : Refusal → ℕ
place_of RowCount = 0
place_of (Value p) = p
place_of Slopes = 0
place_of (Shares c) = place_of_class c
place_of (Deadline k) = k
place_of (Frames c) = place_of_class c

abbrev pub outcome_of : Result (Unit {0}) Refusal → Outcome
outcome_of (Ok u) = accepted
outcome_of (Err r) = refused (number_of r) (place_of r)

-- A check that gives a number and a place where its test fails.
abbrev pub unless : Bool → ℕ → ℕ → Outcome
unless true n p = accepted
unless false n p = refused n p

-- How many rows pass a test before the first that fails it: the number of the lowest such row, or of all rows.
unfoldable pub passing : (Row → Bool) → List Row → ℕ
passing ok [] = 0
passing ok (r ∷ rs) = cond (ok r) (suc (passing ok rs)) 0

-- A check of each row that gives a number and the lowest row that fails.
abbrev pub unless_row : (Row → Bool) → List Row → ℕ → Outcome
unless_row ok rs n = unless (leb (length rs) (passing ok rs)) n (passing ok rs)

-- Checks run in the order given and the first decides.
abbrev pub first : List Outcome → Outcome
first [] = accepted
first (accepted ∷ rest) = first rest
first (refused n p ∷ rest) = refused n p

-- Something new, or at a refusal what there was.
abbrev pub unless_refused : {X : Type 0} → Outcome → X → X → X
unless_refused accepted new old = new
unless_refused (refused n p) new old = old

-- Bytes at the front of a buffer, and its own bytes behind them; at a refusal every byte as it was.
abbrev pub over : Outcome → List ℕ → List ℕ → List ℕ
over o bytes buffer = unless_refused o (bytes ++ drop (length bytes) buffer) buffer
