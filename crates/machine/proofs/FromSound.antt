-- What a sound record has, of any content. So an offer that is let pass finds a place in its queue.
use Prim.Native.Nat.{ℕ, ◌+◌, ◌-◌, ◌*◌, ◌≤◌, ◌<◌}
use mathlib.Core.Bool.{Bool, true, false, cond}
use mathlib.Core.List.{List, [], ◌∷◌, ◌++◌}
use mathlib.Core.Path.{◌≡◌, refl, ap}
use native.Mathlib.Nat.{le_trans}
use native.Mathlib.Omega.{arith}
use lib.Dec.{leb, ltb, eqb}
use lib.ListN.{length, get_or, length-append}
use borrow.Author.Tests.{ltb-true, leb-true, eqb-true}
use Rattle.table.specs.declared.Class.{Class}
use Rattle.table.specs.declared.Class.TheVariants.{A, B}
use Rattle.table.specs.Wire.{period_of}
use Rattle.table.specs.Rows.{row_at, in_use, InUse}
use Rattle.table.specs.Checks.{Outcome, accepted, refused}
use Rattle.table.proofs.Laws as table
use Rattle.planner.specs.Bound.{residence, most_of}
use Rattle.planner.specs.Opening.{standing, IsAccepted}
use Rattle.planner.proofs.Laws as law
use Rattle.machine.specs.declared.Frame.{Frame}
use Rattle.machine.specs.declared.Wire.{Wire}
use Rattle.machine.specs.declared.Wire.TheVariants.{Free, Sending}
use Rattle.machine.specs.Limits.{class_places}
use Rattle.machine.specs.State.{Instant, never, at, State, queue}
use Rattle.machine.specs.Time.{owner}
use Rattle.machine.specs.Record.{is_accepted, all_of, on_sending, names_row, row_in, taken_in, sending, taken_of, each_row, spaced, is_at, newest_of, ends_at, row_only, table_sound, held_sound, apart_sound, latest_sound, age_sound}
use Rattle.machine.specs.Calls.{early, row_frame}
use Rattle.machine.specs.Run.{count}
use Rattle.machine.proofs.OneClass.{All}
use Rattle.machine.proofs.Chain.{not_soon, taken_each}
use Rattle.machine.proofs.Spaced.{EachInstant, room_left}
use Rattle.machine.proofs.Invariant.{named_owner}
use Rattle.machine.proofs.Age.{all_both}
use Rattle.machine.proofs.Space.{in_queue, one_more, Member, in_places_lem}
use Rattle.machine.proofs.Clauses.{Passes, each_passes, names_parts, queue_parts}
-- a row's instants in one list of frames behind another
pub use Rattle.machine.proofs.Chain.{taken_append}
-- each of the document's clauses as a fact, and the facts of a clause that is made of tests
pub use Rattle.machine.proofs.Clauses.{Each, each_true, up_to_true, three_true, four_true, Clauses, clauses}

accepted_true : (o : Outcome) → is_accepted o ≡ true → o ≡ accepted
accepted_true accepted e = refl
accepted_true (refused n p) e = let z : ◌≡◌ {A = ℕ} 0 1 = cc in absurd (omega arith)

at_true : (k : ℕ) (i : Instant) → is_at k i ≡ true → i ≡ at k
at_true k never e = let z : ◌≡◌ {A = ℕ} 0 1 = cc in absurd (omega arith)
at_true k (at j) e = ap at (eqb-true j k e)

pub table_accepted : (s : State) → table_sound s ≡ true → IsAccepted s.table
unfolding table_sound
table_accepted s e = law.standing_if s.table (accepted_true (standing s.table) e)

module _ (s : State) (c : Clauses s) where
  pub is_accepted_lem : IsAccepted s.table
  is_accepted_lem = table_accepted s c.table

  -- ---- the frames of a queue are its class's
  member : (d : Class) (f : Frame) → Passes (names_row s.table ∷ row_in d s.table ∷ []) f → Member d s.table f
  member d f p = record { names = table.is_used s.table f.source p.0; class = p.1.0 }

  members : (d : Class) → All (Member d s.table) (queue d s)
  members A = each_passes (names_row s.table ∷ row_in A s.table ∷ []) (Member A s.table) (member A) s.a ((names_parts s c).0, ((queue_parts s c).0, tt))
  members B = each_passes (names_row s.table ∷ row_in B s.table ∷ []) (Member B s.table) (member B) s.b ((names_parts s c).1, ((queue_parts s c).1, tt))

  -- ---- a row's frames in the port
  abbrev instants : ℕ → List ℕ
  instants k = taken_of k s

  in_port : (d : Class) (k : ℕ) → in_queue k (queue d s) ≤ length (instants k)
  unfolding taken_of
  in_port d k = rw (taken_append k (sending s.wire) (s.a ++ s.b), taken_append k s.a s.b, length-append (taken_in k (sending s.wire)) (taken_in k s.a ++ taken_in k s.b), length-append (taken_in k s.a) (taken_in k s.b)) (by d)
    where
      by : (d : Class) → in_queue k (queue d s) ≤ length (taken_in k (sending s.wire)) + (length (taken_in k s.a) + length (taken_in k s.b))
      by A = omega arith
      by B = omega arith

  module _ (k : ℕ) (h : InUse s.table k) where
    -- what holds of each number in use
    at_use : (ok : ℕ → Bool) → each_row ok s ≡ true → ok k ≡ true
    at_use ok e = rw (table.used s.table k h) at (up_to_true (length s.table.rows) (λ j. cond (in_use s.table j) (ok j) true) e k h.below)

    held_at : length (instants k) ≤ most_of s.table (row_at s.table k)
    unfolding held_sound
    held_at = leb-true _ _ (at_use (λ j. leb (length (taken_of j s)) (most_of s.table (row_at s.table j))) c.held)

    apart_at : spaced (period_of (row_at s.table k)) (instants k) ≡ true
    unfolding apart_sound
    apart_at = at_use (λ j. spaced (period_of (row_at s.table j)) (taken_of j s)) c.apart

    latest_at : ends_at (instants k) (get_or s.last k never) ≡ true
    unfolding latest_sound
    latest_at = at_use (λ j. ends_at (taken_of j s) (get_or s.last j never)) c.latest

    -- each is younger than the row's residence
    abbrev Aged : Frame → Type 0
    Aged f = f.source ≡ k → s.clock - f.taken < residence s.table (row_at s.table k)

    abbrev is_young : Frame → Bool
    is_young f = ltb (s.clock - f.taken) (residence s.table (row_at s.table f.source))

    aged : (f : Frame) → is_young f ≡ true → Aged f
    aged f y e = rw e at (ltb-true (s.clock - f.taken) (residence s.table (row_at s.table f.source)) y)

    age_parts : (all_of is_young s.a ≡ true) × (all_of is_young s.b ≡ true) × (on_sending (λ f left. row_only (owner s.table f) (is_young f)) s.wire ≡ true)
    unfolding age_sound
    age_parts = three_true _ _ _ c.age

    queue_aged : (q : List Frame) → all_of is_young q ≡ true → All Aged q
    queue_aged q y = each_passes (is_young ∷ []) Aged (λ f p. aged f p.0) q (y, tt)

    wire_aged : (w : Wire) → on_sending (λ f left. row_only (owner s.table f) (is_young f)) w ≡ true → All Aged (sending w)
    wire_aged Free y = tt
    wire_aged (Sending f left) y = ((λ e. aged f (rw (named_owner s.table f (rw e h)) at y) e), tt)

    ages : EachInstant (λ x. s.clock - x < residence s.table (row_at s.table k)) (instants k)
    unfolding taken_of
    ages = taken_each _ k (sending s.wire ++ (s.a ++ s.b)) (all_both Aged (sending s.wire) (s.a ++ s.b) (wire_aged s.wire age_parts.2) (all_both Aged s.a s.b (queue_aged s.a age_parts.0) (queue_aged s.b age_parts.1)))

    -- an offer that is not early may have one more
    one_left : early s k ≡ false → length (instants k) < most_of s.table (row_at s.table k)
    one_left late = law.most_above s.table is_accepted_lem k h (length (instants k)) (go (instants k) apart_at latest_at ages)
      where
        go : (xs : List ℕ) → spaced (period_of (row_at s.table k)) xs ≡ true → ends_at xs (get_or s.last k never) ≡ true → EachInstant (λ x. s.clock - x < residence s.table (row_at s.table k)) xs → length xs * period_of (row_at s.table k) < residence s.table (row_at s.table k)
        go [] e l a = omega (arith, law.residence_some s.table (row_at s.table k))
        go (x ∷ xs) e l a = room_left (period_of (row_at s.table k)) _ s.clock (x ∷ xs) (law.residence_some s.table (row_at s.table k)) e (omega (arith, not_soon (get_or s.last k never) s.clock (period_of (row_at s.table k)) (newest_of (x ∷ xs)) late (at_true (newest_of (x ∷ xs)) _ l), law.period_least s.table is_accepted_lem k h)) a

  -- ---- space
  pub in_class_places : (d : Class) → length (queue d s) ≤ class_places
  in_class_places d = in_places_lem d s.table is_accepted_lem (queue d s) (members d) (λ k h. le_trans (in_port d k) (held_at k h))

  -- an offer to a row in use that is not early finds a place in its class's queue
  pub place_left : (k : ℕ) → InUse s.table k → early s k ≡ false → length (queue (row_at s.table k).class s) < class_places
  place_left k h late =
      let d = (row_at s.table k).class in
      let f = row_frame s k 0 in
      in_places_lem d s.table is_accepted_lem (f ∷ queue d s) (record { names = h; class = table.same_self d }, members d) (λ j g. more j g (eqb k j) refl)
    where
      more : (j : ℕ) → InUse s.table j → (b : Bool) → eqb k j ≡ b → in_queue j (row_frame s k 0 ∷ queue (row_at s.table k).class s) ≤ most_of s.table (row_at s.table j)
      more j g true e =
          let same = eqb-true k j e in
          let one : count (eqb k j) ≡ 1 = ap count e in
          omega (arith, one_more j (row_frame s k 0) (queue (row_at s.table k).class s), in_port (row_at s.table k).class j, one_left j g (rw same at late))
      more j g false e =
          let none : count (eqb k j) ≡ 0 = ap count e in
          omega (arith, one_more j (row_frame s k 0) (queue (row_at s.table k).class s), in_port (row_at s.table k).class j, held_at j g)
