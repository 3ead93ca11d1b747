-- What an advance's checks say of a record, what an advance then comes to, and what it gives.
use Rattle.std.specs.Prelude.{Option, Some, None, Ok}
use Prim.Native.Nat.{ℕ, ◌+◌, ◌≤◌, ◌<◌}
use mathlib.Core.Bool.{true, false}
use mathlib.Core.Path.{◌≡◌, refl, sym, ◌∙◌}
use native.Mathlib.Omega.{arith}
use borrow.Author.Tests.{le-leb, lt-leb}
use Rattle.table.specs.Checks.{Outcome, accepted, refused}
use Rattle.machine.specs.declared.Frame.{Frame}
use Rattle.machine.specs.declared.Denial.{Denial}
use Rattle.machine.specs.declared.Port.{Port}
use Rattle.machine.specs.declared.Passed.{Passed}
use Rattle.machine.specs.declared.Effect.{Effect}
use Rattle.machine.specs.Limits.{last_clock, most_steps}
use Rattle.machine.specs.State.{State, view}
use Rattle.machine.specs.Time.{progress}
use Rattle.machine.specs.Record.{sound}
use Rattle.machine.specs.Calls.{advance, passed, advance_check, answer_by, number_of, place_of, advance_answer, Gives}
use Rattle.machine.specs.Effects.{passed_answer, Comes, Denied}
use Rattle.machine.proofs.FromSound.{clauses}
use Rattle.bytetime.specs.declared.Ran.{Ran}
use Rattle.bytetime.specs.Ports.{SameRun}
use Rattle.effects.proofs.Laws.{Carried, carries, refuses}
use Rattle.advances.specs.Steps.{passed_of}
use Rattle.advances.proofs.Begins.{room_for}
use Rattle.advances.proofs.Sent.{ran_effect, sent}

-- the checks in their order
module _ (s : State) (n : ℕ) where
  pub advance_broken : sound s ≡ false → advance_check s n ≡ refused 18 0
  unfolding advance_check
  advance_broken e = rw e refl

  module _ (ok : sound s ≡ true) where
    pub too_many_steps : most_steps < n → advance_check s n ≡ refused 15 0
    unfolding advance_check
    too_many_steps h = rw (ok, lt-leb n most_steps h) refl

    pub past_last_clock : n ≤ most_steps → last_clock < s.clock + n → advance_check s n ≡ refused 16 0
    unfolding advance_check
    past_last_clock h g = rw (ok, le-leb n most_steps h, lt-leb (s.clock + n) last_clock g) refl

    pub advance_passes : n ≤ most_steps → s.clock + n ≤ last_clock → advance_check s n ≡ accepted
    unfolding advance_check
    advance_passes h g = rw (ok, le-leb n most_steps h, le-leb (s.clock + n) last_clock g) refl

pub clock_of_lem : (p : Port) → (view p).clock ≡ p.clock
unfolding view
clock_of_lem p = refl

-- what an advance comes to
module _ (p : Port) (n : ℕ) where
  pub advance_refused : (d : Denial) → advance_check (view p) n ≡ refused (number_of d) (place_of d) → Denied p (advance n) d
  advance_refused d h = refuses p (advance n) d (rw h refl) (rw h refl)

  pub advance_accepted : {e : Effect} (ran : Ran) → sound (view p) ≡ true → advance_check (view p) n ≡ accepted → SameRun (view p) (progress n (view p)) ran → e ≡ ran_effect p ran → Comes p (advance n) e
  advance_accepted ran ok h same q =
      rw q (record { answer = rw (h, same.passed, same.ended) refl; port = rw h (sent p ran ∙ sym same.state); room = room_for (view p) (clauses (view p) ok) ran.hot.moved ran.hot.sender })

-- an advance that is carried out: its effect says what it has passed
passed_is : (x : Option Passed) (o : Outcome) (k : ℕ) (y : Option Frame) → passed_answer x ≡ answer_by o (passed k y) → passed_answer (Some (passed_of x)) ≡ passed_answer x
passed_is None accepted k y h = let z : ◌≡◌ {A = ℕ} 0 1 = cc in absurd (omega arith)
passed_is None (refused m l) k y h = let z : ◌≡◌ {A = ℕ} 0 1 = cc in absurd (omega arith)
passed_is (Some x) o k y h = refl

pub advanced : {p q : Port} {n : ℕ} {e : Effect} {x : Passed} → Comes p (advance n) e → Carried p e q → x ≡ passed_of e.passed → Gives p (advance n) (advance_answer (Ok x)) q
advanced {p = p} {n = n} {e = e} m b ex = rw (ex, passed_is e.passed (advance_check (view p) n) _ _ m.answer) (carries m b)
