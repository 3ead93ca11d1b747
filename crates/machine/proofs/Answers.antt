-- Different answers have different numbers or values: what an answer stands for fixes the answer.
use Rattle.std.specs.Prelude.{None, Result, Ok, Err}
use Prim.Native.Nat.{ℕ}
use mathlib.Core.Bool.{cond}
use mathlib.Core.Path.{◌≡◌, refl, sym, ◌∙◌, ap}
use lib.Dec.{eqb}
use Rattle.table.specs.declared.Refusal.TheVariants.{RowCount, Value, Slopes, Shares, Deadline, Frames}
use Rattle.table.proofs.Laws.{refusal_by, refusal_said}
use Rattle.machine.specs.declared.Denial.{Denial}
use Rattle.machine.specs.declared.Denial.TheVariants.{Broken, NoSuchRow, Payload, Early, BestEffortFull, TooManySteps, PastLastClock, InUse, Busy, Misfit}
use Rattle.machine.specs.declared.Passed.{Passed}
use Rattle.machine.specs.Calls.{Answer, taken, passed, denied, number_of, place_of, offer_answer, advance_answer}

-- what an answer says was answered
abbrev denial_by : ℕ → ℕ → Denial
denial_by n p =
    cond (eqb n 18) Broken (cond (eqb n 11) NoSuchRow (cond (eqb n 12) Payload (cond (eqb n 13) Early (cond (eqb n 14) BestEffortFull (cond (eqb n 15) TooManySteps (cond (eqb n 16) PastLastClock (cond (eqb n 22) InUse (cond (eqb n 21) Busy (Misfit (refusal_by n p))))))))))

denied_said : (d : Denial) → denial_by (number_of d) (place_of d) ≡ d
denied_said Broken = refl
denied_said NoSuchRow = refl
denied_said Payload = refl
denied_said Early = refl
denied_said BestEffortFull = refl
denied_said TooManySteps = refl
denied_said PastLastClock = refl
denied_said InUse = refl
denied_said Busy = refl
denied_said (Misfit RowCount) = refl
denied_said (Misfit (Value p)) = refl
denied_said (Misfit Slopes) = refl
denied_said (Misfit (Shares c)) = ap Misfit (refusal_said (Shares c))
denied_said (Misfit (Deadline k)) = refl
denied_said (Misfit (Frames c)) = ap Misfit (refusal_said (Frames c))

abbrev offer_by : Answer → Result (Unit {0}) Denial
offer_by taken = Ok tt
offer_by (passed n e) = Ok tt
offer_by (denied n p) = Err (denial_by n p)

offer_said : (o : Result (Unit {0}) Denial) → offer_by (offer_answer o) ≡ o
offer_said (Ok u) = refl
offer_said (Err d) = ap Err (denied_said d)

abbrev advance_by : Answer → Result Passed Denial
advance_by taken = Ok (record { count = 0; ended = None })
advance_by (passed n e) = Ok (record { count = n; ended = e })
advance_by (denied n p) = Err (denial_by n p)

advance_said : (a : Result Passed Denial) → advance_by (advance_answer a) ≡ a
advance_said (Ok x) = refl
advance_said (Err d) = ap Err (denied_said d)

pub same_offer : (o p : Result (Unit {0}) Denial) → offer_answer o ≡ offer_answer p → o ≡ p
same_offer o p e = sym (offer_said o) ∙ ap offer_by e ∙ offer_said p

pub same_advance : (a b : Result Passed Denial) → advance_answer a ≡ advance_answer b → a ≡ b
same_advance a b e = sym (advance_said a) ∙ ap advance_by e ∙ advance_said b
