-- A list of calls as steps of the machine, each by one of six ways.
use Prim.Native.Nat.{ℕ, ◌+◌, ◌≤◌, ◌<◌}
use mathlib.Core.Bool.{Bool, true, false, not, false≢true}
use mathlib.Core.List.{List, [], ◌∷◌}
use mathlib.Core.Path.{◌≡◌, refl, sym, ◌∙◌}
use native.Mathlib.Omega.{arith}
use lib.Dec.{leb, ltb}
use lib.ListN.{length}
use borrow.Author.Tests.{ltb-true, leb-true, le-leb}
use Rattle.table.specs.declared.Class.TheVariants.{A, B}
use Rattle.table.specs.declared.Row.{Row}
use Rattle.table.specs.Limits.{most_rows}
use Rattle.table.specs.Rows.{is_there, Contents, row_at, in_use, InUse, with_row, without_row}
use Rattle.table.specs.Checks.{Outcome, accepted, refused, unless, passing, first}
use Rattle.table.specs.Ranges.{row_ok}
use Rattle.table.proofs.Laws as table
use Rattle.planner.specs.Opening.{slopes_ok, shares_ok, timely, room_ok, fair_checks, IsAccepted}
use Rattle.planner.proofs.Growth as growth
use Rattle.machine.specs.State.{State, fresh}
use Rattle.machine.specs.Time.{progress}
use Rattle.machine.specs.Limits.{last_clock, most_steps, best_places}
use Rattle.machine.specs.Record.{sound}
use Rattle.machine.specs.Calls.{Call, offer, offer_best, advance, join, leave, Answer, taken, passed, denied, early, offer_check, best_check, advance_check, is_open, join_check, quiet, leave_check, take_row, take_best, join_row, leave_row, after, answer}
use Rattle.machine.specs.Run.{Event, event}
use Rattle.machine.proofs.Clauses.{clauses}
use Rattle.machine.proofs.FromSound.{is_accepted_lem}

-- a refusal by another rule than 18: its number, and its place
pub record Other (number place : ℕ) : Type 0 where
  pub some : 1 ≤ number
  pub most : number ≤ 22
  pub other : number ≡ 18 → ⊥
  pub within : place ≤ most_rows

-- what a call does to a sound port
pub data Step (s : State) : Call → Answer → State → Type 0 where
  row_taken : (k p : ℕ) → InUse s.table k → p ≤ (row_at s.table k).payload → early s k ≡ false → Step s (offer k p) taken (take_row k p s)
  best_taken : (p : ℕ) → p ≤ s.table.header.payload → length s.best < best_places → Step s (offer_best p) taken (take_best p s)
  advanced : (n : ℕ) → s.clock + n ≤ last_clock → Step s (advance n) (passed (progress n s).passed (progress n s).ended) (progress n s).state
  row_joins : (k : ℕ) (r : Row) → k < most_rows → (InUse s.table k → ⊥) → is_there r ≡ true → IsAccepted (with_row k r s.table) → Step s (join k r) taken (join_row k r s)
  row_leaves : (k : ℕ) → InUse s.table k → quiet s ≡ true → IsAccepted (without_row k s.table) → Step s (leave k) taken (leave_row k s)
  refusal : (c : Call) (n p : ℕ) → Other n p → answer s c ≡ denied n p → Step s c (denied n p) s

-- the machine's states along a list
pub data Trace (t : Contents) : List Event → State → Type 0 where
  start : Trace t [] (fresh t)
  step : {es : List Event} {s r : State} {c : Call} {a : Answer} → Trace t es s → Step s c a r → Trace t (event c a ∷ es) r

other : (n : ℕ) → (1 ≤ n) × (n ≤ 22) × (n ≡ 18 → ⊥) → Other n 0
other n h = record { some = h.0; most = h.1; other = h.2; within = omega arith }

not-true : (b : Bool) → not b ≡ true → b ≡ false
not-true true e = sym e
not-true false e = refl

-- a number that a row may join at
open_number : (t : Contents) (k : ℕ) → is_open t k ≡ true → (k < most_rows) × (InUse t k → ⊥)
unfolding is_open
open_number t k e =
    let p = table.and-true (ltb k most_rows) (not (in_use t k)) e in
    (ltb-true k most_rows p.0, λ u. false≢true (sym (not-true (in_use t k) p.1) ∙ table.used t k u))

with_few : (t : Contents) (k : ℕ) (r : Row) → k < most_rows → length t.rows ≤ most_rows → length (with_row k r t).rows ≤ most_rows
unfolding with_row
with_few t k r h few = rw (table.with_length k r t.rows) (omega arith)

of_b : (n : ℕ) → (1 ≤ n) × (n ≤ 22) × (n ≡ 18 → ⊥) → Other n 1
of_b n h = record { some = h.0; most = h.1; other = h.2; within = omega arith }

-- the refusals of a table
abbrev Misfits : Outcome → Type 0
Misfits accepted = Unit {0}
Misfits (refused n p) = Other n p

abbrev EachMisfits : List Outcome → Type 0
EachMisfits [] = Unit {0}
EachMisfits (o ∷ os) = Misfits o × EachMisfits os

first_misfits : (os : List Outcome) → EachMisfits os → Misfits (first os)
first_misfits [] m = tt
first_misfits (accepted ∷ os) m = first_misfits os m.1
first_misfits (refused n p ∷ os) m = m.0

misfits : (b : Bool) (n p : ℕ) → Other n p → Misfits (unless b n p)
misfits true n p o = tt
misfits false n p o = o

fair_misfits : (t : Contents) → length t.rows ≤ most_rows → Misfits (first (fair_checks t))
fair_misfits t few =
    first_misfits (fair_checks t) (
      misfits (slopes_ok t) 8 0 (other 8 (omega arith)),
      (
        misfits (shares_ok A t) 9 0 (other 9 (omega arith)),
        (
          misfits (shares_ok B t) 9 1 (of_b 9 (omega arith)),
          (
            misfits (leb (length t.rows) (passing (timely t) t.rows)) 10 (passing (timely t) t.rows) (record { some = omega arith; most = omega arith; other = λ e. omega arith; within = omega (arith, table.passing_most (timely t) t.rows) }),
            (misfits (room_ok A t) 20 0 (other 20 (omega arith)), (misfits (room_ok B t) 20 1 (of_b 20 (omega arith)), tt)),
          ),
        ),
      ),
    )

-- each call on a sound port is one of them
module _ (s : State) (ok : sound s ≡ true) where
  offer_step : (k p : ℕ) → Step s (offer k p) (answer s (offer k p)) (after s (offer k p))
  unfolding offer_check
  offer_step k p = by_row (in_use s.table k) refl
    where
      by_row : (x : Bool) → in_use s.table k ≡ x → Step s (offer k p) (answer s (offer k p)) (after s (offer k p))
      by_row false e = rw (ok, e) (refusal (offer k p) 11 0 (other 11 (omega arith)) (rw (ok, e) refl))
      by_row true e = by_payload (leb p (row_at s.table k).payload) refl
        where
          by_early : (y : Bool) → leb p (row_at s.table k).payload ≡ true → early s k ≡ y → Step s (offer k p) (answer s (offer k p)) (after s (offer k p))
          by_early true f g = rw (ok, e, f, g) (refusal (offer k p) 13 0 (other 13 (omega arith)) (rw (ok, e, f, g) refl))
          by_early false f g = rw (ok, e, f, g) (row_taken k p (table.is_used s.table k e) (leb-true _ _ f) g)

          by_payload : (y : Bool) → leb p (row_at s.table k).payload ≡ y → Step s (offer k p) (answer s (offer k p)) (after s (offer k p))
          by_payload false f = rw (ok, e, f) (refusal (offer k p) 12 0 (other 12 (omega arith)) (rw (ok, e, f) refl))
          by_payload true f = by_early (early s k) f refl

  best_step : (p : ℕ) → Step s (offer_best p) (answer s (offer_best p)) (after s (offer_best p))
  unfolding best_check
  best_step p = by_payload (leb p s.table.header.payload) refl
    where
      by_room : (y : Bool) → leb p s.table.header.payload ≡ true → ltb (length s.best) best_places ≡ y → Step s (offer_best p) (answer s (offer_best p)) (after s (offer_best p))
      by_room false e f = rw (ok, e, f) (refusal (offer_best p) 14 0 (other 14 (omega arith)) (rw (ok, e, f) refl))
      by_room true e f = rw (ok, e, f) (best_taken p (leb-true _ _ e) (ltb-true _ _ f))

      by_payload : (y : Bool) → leb p s.table.header.payload ≡ y → Step s (offer_best p) (answer s (offer_best p)) (after s (offer_best p))
      by_payload false e = rw (ok, e) (refusal (offer_best p) 12 0 (other 12 (omega arith)) (rw (ok, e) refl))
      by_payload true e = by_room (ltb (length s.best) best_places) e refl

  advance_step : (n : ℕ) → Step s (advance n) (answer s (advance n)) (after s (advance n))
  unfolding advance_check
  advance_step n = by_count (leb n most_steps) refl
    where
      by_clock : (y : Bool) → leb n most_steps ≡ true → leb (s.clock + n) last_clock ≡ y → Step s (advance n) (answer s (advance n)) (after s (advance n))
      by_clock false e f = rw (ok, e, f) (refusal (advance n) 16 0 (other 16 (omega arith)) (rw (ok, e, f) refl))
      by_clock true e f = rw (ok, e, f) (advanced n (leb-true _ _ f))

      by_count : (y : Bool) → leb n most_steps ≡ y → Step s (advance n) (answer s (advance n)) (after s (advance n))
      by_count false e = rw (ok, e) (refusal (advance n) 15 0 (other 15 (omega arith)) (rw (ok, e) refl))
      by_count true e = by_clock (leb (s.clock + n) last_clock) e refl

  -- a join: by its number, its row, and the table with the row
  join_step : (k : ℕ) (r : Row) → Step s (join k r) (answer s (join k r)) (after s (join k r))
  unfolding join_check
  join_step k r = by_number (is_open s.table k) refl
    where
      by_table : (o : Outcome) → is_open s.table k ≡ true → row_ok r ≡ true → first (fair_checks (with_row k r s.table)) ≡ o → Misfits o → Step s (join k r) (answer s (join k r)) (after s (join k r))
      by_table accepted e f g m =
          let n = open_number s.table k e in
          rw (ok, e, f, g) (row_joins k r n.0 n.1 (table.in_range_there r (table.in_range r f).positive) (growth.join_accepted s.table k r (is_accepted_lem s (clauses s ok)) n.0 (table.in_range r f) g))
      by_table (refused n p) e f g m = rw (ok, e, f, g) (refusal (join k r) n p m (rw (ok, e, f, g) refl))

      by_row : (y : Bool) → is_open s.table k ≡ true → row_ok r ≡ y → Step s (join k r) (answer s (join k r)) (after s (join k r))
      by_row false e f = rw (ok, e, f) (refusal (join k r) 5 k (record { some = omega arith; most = omega arith; other = λ z. omega arith; within = omega (arith, (open_number s.table k e).0) }) (rw (ok, e, f) refl))
      by_row true e f = by_table (first (fair_checks (with_row k r s.table))) e f refl (fair_misfits (with_row k r s.table) (with_few s.table k r (open_number s.table k e).0 (is_accepted_lem s (clauses s ok)).ranges.most))

      by_number : (y : Bool) → is_open s.table k ≡ y → Step s (join k r) (answer s (join k r)) (after s (join k r))
      by_number false e = rw (ok, e) (refusal (join k r) 22 0 (other 22 (omega arith)) (rw (ok, e) refl))
      by_number true e = by_row (row_ok r) e refl

  leave_step : (k : ℕ) → Step s (leave k) (answer s (leave k)) (after s (leave k))
  unfolding leave_check
  leave_step k = by_number (in_use s.table k) refl
    where
      by_slopes : (y : Bool) → in_use s.table k ≡ true → quiet s ≡ true → slopes_ok (without_row k s.table) ≡ y → Step s (leave k) (answer s (leave k)) (after s (leave k))
      by_slopes false e f g = rw (ok, e, f, g) (refusal (leave k) 8 0 (other 8 (omega arith)) (rw (ok, e, f, g) refl))
      by_slopes true e f g =
          let u = table.is_used s.table k e in
          rw (ok, e, f, g) (row_leaves k u f (growth.leave_accepted s.table k (is_accepted_lem s (clauses s ok)) u g))

      by_quiet : (y : Bool) → in_use s.table k ≡ true → quiet s ≡ y → Step s (leave k) (answer s (leave k)) (after s (leave k))
      by_quiet false e f = rw (ok, e, f) (refusal (leave k) 21 0 (other 21 (omega arith)) (rw (ok, e, f) refl))
      by_quiet true e f = by_slopes (slopes_ok (without_row k s.table)) e f refl

      by_number : (y : Bool) → in_use s.table k ≡ y → Step s (leave k) (answer s (leave k)) (after s (leave k))
      by_number false e = rw (ok, e) (refusal (leave k) 11 0 (other 11 (omega arith)) (rw (ok, e) refl))
      by_number true e = by_quiet (quiet s) e refl

  pub any_step : (c : Call) → Step s c (answer s c) (after s c)
  any_step (offer k p) = offer_step k p
  any_step (offer_best p) = best_step p
  any_step (advance n) = advance_step n
  any_step (join k r) = join_step k r
  any_step (leave k) = leave_step k

  -- an offer that 11, 12 and 13 let pass is taken
  pub let_pass : (k p : ℕ) → InUse s.table k → p ≤ (row_at s.table k).payload → early s k ≡ false → answer s (offer k p) ≡ taken
  unfolding offer_check
  let_pass k p h g e = rw (ok, table.used s.table k h, le-leb p (row_at s.table k).payload g, e) refl
