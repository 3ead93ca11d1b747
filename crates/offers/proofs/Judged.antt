-- What an offer's checks say of a record, what a sound record has for the code, what an offer then comes to, and what it gives.
use Rattle.std.specs.Prelude.{Option, Some, None}
use Prim.Native.Nat.{ℕ, ◌≤◌, ◌<◌}
use mathlib.Core.Bool.{true, false}
use mathlib.Core.Path.{◌≡◌, refl, ◌∙◌}
use native.Mathlib.Omega.{arith}
use borrow.Author.Tests.{lt-ltb, le-ltb, le-leb, lt-leb}
use lib.ListN.{length, get_or}
use Rattle.table.specs.declared.Class.{Class}
use Rattle.table.specs.declared.Class.TheVariants.{A, B}
use Rattle.table.specs.Limits.{most_rows}
use Rattle.table.specs.Wire.{wire_size, size_for, period_of}
use Rattle.table.specs.Rows.{no_row, is_there, rows_of, row_at, in_use, InUse}
use Rattle.table.specs.Checks.{Outcome, accepted, refused}
use Rattle.table.proofs.Laws as table
use Rattle.machine.specs.declared.Denial.{Denial}
use Rattle.machine.specs.declared.Frame.{Frame}
use Rattle.machine.specs.declared.Port.{Port}
use Rattle.machine.specs.declared.Change.TheVariants.{JoinedBest}
use Rattle.machine.specs.declared.Effect.{Effect}
use Rattle.machine.specs.declared.Passed.{Passed}
use Rattle.machine.specs.Limits.{class_places, best_places, best_mark}
use Rattle.machine.specs.State.{State, queue, instant_of, view}
use Rattle.machine.specs.Record.{sound}
use Rattle.machine.specs.Calls.{Call, offer, offer_best, taken, too_soon, early, offer_check, best_check, row_frame, joined, take_row, take_best, answer_by, answer, number_of, place_of, Gives}
use Rattle.machine.specs.Effects.{passed_answer, carried_out, HasRow, Room, Comes, Denied}
use Rattle.machine.proofs.FromSound.{clauses, is_accepted_lem, place_left}
use Rattle.machine.proofs.Places.{Places, waiting_length, instants_length, instant_at_lem}
use Rattle.effects.proofs.Laws.{Carried, carries, refuses}
use Rattle.offers.specs.Steps.{effect_on, joined_in}

-- ---- the checks in their order, of a row's offer
module _ (s : State) (k x : ℕ) where
  pub broken : sound s ≡ false → offer_check s k x ≡ refused 18 0
  unfolding offer_check
  broken e = rw e refl

  module _ (ok : sound s ≡ true) where
    pub no_such_row : in_use s.table k ≡ false → offer_check s k x ≡ refused 11 0
    unfolding offer_check
    no_such_row h = rw (ok, h) refl

    module _ (in_use_lem : InUse s.table k) where
      pub too_large : (row_at s.table k).payload < x → offer_check s k x ≡ refused 12 0
      unfolding offer_check
      too_large h = rw (ok, table.used s.table k in_use_lem, lt-leb x (row_at s.table k).payload h) refl

      pub too_early : x ≤ (row_at s.table k).payload → early s k ≡ true → offer_check s k x ≡ refused 13 0
      unfolding offer_check
      too_early h e = rw (ok, table.used s.table k in_use_lem, le-leb x (row_at s.table k).payload h, e) refl

      passes : x ≤ (row_at s.table k).payload → early s k ≡ false → offer_check s k x ≡ accepted
      unfolding offer_check
      passes h e = rw (ok, table.used s.table k in_use_lem, le-leb x (row_at s.table k).payload h, e) refl

-- ---- and of best effort's
module _ (s : State) (x : ℕ) where
  pub best_broken : sound s ≡ false → best_check s x ≡ refused 18 0
  unfolding best_check
  best_broken e = rw e refl

  module _ (ok : sound s ≡ true) where
    pub best_too_large : s.table.header.payload < x → best_check s x ≡ refused 12 0
    unfolding best_check
    best_too_large h = rw (ok, lt-leb x s.table.header.payload h) refl

    pub best_full : x ≤ s.table.header.payload → best_places ≤ length s.best → best_check s x ≡ refused 14 0
    unfolding best_check
    best_full h f = rw (ok, le-leb x s.table.header.payload h, le-ltb (length s.best) best_places f) refl

    best_passes : x ≤ s.table.header.payload → length s.best < best_places → best_check s x ≡ accepted
    unfolding best_check
    best_passes h f = rw (ok, le-leb x s.table.header.payload h, lt-ltb (length s.best) best_places f) refl

-- ---- the same by the record's own parts
module _ (p : Port) where
  pub best_count : length (view p).best ≡ p.best.count
  unfolding view
  best_count = waiting_length p.best.count p.best.frames

  pub header_of_lem : (view p).table.header ≡ p.table.header
  unfolding view
  header_of_lem = refl

  pub row_count_lem : length (view p).table.rows ≡ p.table.count
  unfolding view
  row_count_lem = table.rows_length p.table

  module _ (ok : sound (view p) ≡ true) where
    pub few_rows : p.table.count ≤ most_rows
    few_rows = rw row_count_lem at (is_accepted_lem (view p) (clauses (view p) ok)).ranges.most

    module _ (places : Places p) (k : ℕ) (h : k < p.table.count) where
      pub row_is : row_at (view p).table k ≡ get_or p.table.rows k no_row
      unfolding view
      row_is = table.row_at_lem p.table places.rows few_rows k h

      module _ (there : is_there (get_or p.table.rows k no_row) ≡ true) where
        pub in_use_lem : InUse (view p).table k
        unfolding view
        in_use_lem = table.in_use_lem p.table places.rows few_rows k h there

        pub early_is : early (view p) k ≡ too_soon (instant_of (get_or p.last k None)) p.clock (period_of (get_or p.table.rows k no_row))
        unfolding view
        early_is = rw (instant_at_lem (rows_of p.table) p.last k in_use_lem.there, table.row_at_lem p.table places.rows few_rows k h) refl

        -- an offer that is let pass finds a place in its class's queue
        room : early (view p) k ≡ false → length (queue (row_at (view p).table k).class (view p)) < class_places
        room late = place_left (view p) (clauses (view p) ok) k in_use_lem late

-- ---- what an offer comes to
module _ (p : Port) where
  pub row_refused : (k x : ℕ) (d : Denial) → offer_check (view p) k x ≡ refused (number_of d) (place_of d) → Denied p (offer k x) d
  row_refused k x d h = refuses p (offer k x) d (rw h refl) (rw h refl)

  pub best_refused : (x : ℕ) (d : Denial) → best_check (view p) x ≡ refused (number_of d) (place_of d) → Denied p (offer_best x) d
  best_refused x d h = refuses p (offer_best x) d (rw h refl) (rw h refl)

-- a row's frame joins its class's queue
joins : (p : Port) (c : Class) (f : Frame) → carried_out (effect_on p (joined_in c f)) (view p) ≡ joined c f (view p)
unfolding view
joins p A f = refl
joins p B f = refl

joins_room : (c : Class) (f : Frame) (s : State) → length (queue c s) < class_places → HasRow f s → Room (Some (joined_in c f)) s
joins_room A f s h g = (h, g)
joins_room B f s h g = (h, g)

module _ (p : Port) (ok : sound (view p) ≡ true) (places : Places p) (k : ℕ) (h : k < p.table.count) (there : is_there (get_or p.table.rows k no_row) ≡ true) where
  pub row_accepted : (x size : ℕ) {e : Effect} → x ≤ (row_at (view p).table k).payload → early (view p) k ≡ false → size ≡ size_for (get_or p.table.rows k no_row) x → e ≡ effect_on p (joined_in (get_or p.table.rows k no_row).class (record { source = k; size = size; taken = p.clock })) → Comes p (offer k x) e
  unfolding view take_row
  row_accepted x size few late z q =
      let check = passes (view p) k x ok (in_use_lem p ok places k h there) few late in
      let c = (row_at (view p).table k).class in
      rw (q, z, ← row_is p ok places k h) (record { answer = rw check refl; port = rw check (joins p c (row_frame (view p) k x)); room = joins_room c _ (view p) (room p ok places k h there late) (omega (arith, few_rows p ok), rw (instants_length (rows_of p.table) p.last) (in_use_lem p ok places k h there).below, (in_use_lem p ok places k h there).there) })

module _ (p : Port) (ok : sound (view p) ≡ true) where
  pub best_accepted : (x size : ℕ) {e : Effect} → x ≤ p.table.header.payload → p.best.count < best_places → size ≡ wire_size x → e ≡ effect_on p (JoinedBest (record { source = best_mark; size = size; taken = p.clock })) → Comes p (offer_best x) e
  unfolding view take_best
  best_accepted x size few free z q =
      let room : length (view p).best < best_places = rw (best_count p) free in
      let check = best_passes (view p) x ok few room in
      rw (q, z) (record { answer = rw check refl; port = rw check refl; room = room })

-- ---- an offer that is carried out has passed no byte-time
passed_is : (x : Option Passed) (o : Outcome) → passed_answer x ≡ answer_by o taken → passed_answer x ≡ taken
passed_is None o h = refl
passed_is (Some x) accepted h = let z : ◌≡◌ {A = ℕ} 0 1 = cc in absurd (omega arith)
passed_is (Some x) (refused m l) h = let z : ◌≡◌ {A = ℕ} 0 1 = cc in absurd (omega arith)

pub offered : {p q : Port} {c : Call} {e : Effect} (o : Outcome) → answer (view p) c ≡ answer_by o taken → Comes p c e → Carried p e q → Gives p c taken q
offered {e = e} o h m b = rw (passed_is e.passed o (m.answer ∙ h)) at (carries m b)
