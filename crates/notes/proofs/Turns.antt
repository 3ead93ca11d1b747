-- The frames that wait in a queue: the test of each, and what is noted of them behind those noted before, turn by turn.
use Prim.Native.Nat.{ℕ, zero, suc, ◌+◌, ◌≤◌, ◌<◌, max}
use mathlib.Core.Bool.{Bool, true, false}
use mathlib.Core.List.{List, [], ◌∷◌, ◌++◌, append_assoc, append-nil}
use mathlib.Core.Path.{◌≡◌, refl, sym, ◌∙◌}
use native.Mathlib.Numerals.{add-one}
use native.Mathlib.Omega.{arith}
use lib.ListN.{length, get_or, set, take, drop, length-take, length-append, drop_of_length-le}
use lib.Seq.{take-suc, take_all, drop-cons}
use Rattle.table.specs.declared.Table.{Table}
use Rattle.table.specs.Limits.{most_rows, class_places}
use Rattle.table.specs.Wire.{period_of}
use Rattle.table.specs.Rows.{no_row}
use Rattle.machine.specs.declared.Frame.{Frame}
use Rattle.machine.specs.declared.Queue.{Queue}
use Rattle.machine.specs.declared.Wire.{Wire}
use Rattle.machine.specs.Record.{all_of, sending}
use Rattle.machine.proofs.Places.{zero_frame}
use Rattle.spacing.specs.Spread.{in_record}
use Rattle.notes.specs.declared.Noted.{Noted}
use Rattle.notes.specs.Notes.{newests, counts, in_turn, Notes, Few}
use Rattle.notes.specs.Steps.{Behind, StillApart}
use Rattle.notes.proofs.Notes.{taken_few, noted_here, apart_here, one_sending}

-- ---- the test of each
module _ (ok : Frame → Bool) (fs : List Frame) (i : ℕ) where
  module _ (h : i < length fs) where
    pub fails_here : ok (get_or fs i zero_frame) ≡ false → all_of ok (drop i fs) ≡ false
    fails_here e = rw (drop-cons fs i zero_frame h, e) refl

    pub passes_here : ok (get_or fs i zero_frame) ≡ true → all_of ok (drop (i + 1) fs) ≡ all_of ok (drop i fs)
    passes_here e = rw (add-one, drop-cons fs i zero_frame h, e) refl

  pub all_passed : length fs ≤ i → all_of ok (drop i fs) ≡ true
  all_passed h = rw (drop_of_length-le fs {i = i} h) refl

-- ---- what is noted
-- a count grows by one at most
grows : (xs : List ℕ) (k j n v : ℕ) → v ≤ n → get_or xs j 0 ≤ n → get_or (set xs k v) j 0 ≤ n
grows [] k j n v e h = h
grows (x ∷ xs) zero zero n v e h = e
grows (x ∷ xs) zero (suc j) n v e h = h
grows (x ∷ xs) (suc k) zero n v e h = h
grows (x ∷ xs) (suc k) (suc j) n v e h = grows xs k j n v e h

-- the notes, when those before i are noted
pub record Going (old : List Noted) (fs : List Frame) (t : Table) (i : ℕ) (new : List Noted) (rising : Bool) : Type 0 where
  pub few : Few (65 + i) (counts new)
  pub noted : Behind (take i fs) old new
  pub apart : (rising ≡ true) → StillApart (take i fs) t old

pub none_yet : (old : List Noted) (fs : List Frame) (t : Table) → Few 65 (counts old) → Going old fs t 0 old true
none_yet old fs t f = record { few = λ k h. omega (arith, f k h); noted = λ gs n. rw append-nil n; apart = λ e gs n a. rw append-nil a }

module _ (old : List Noted) (fs : List Frame) (t : Table) (i : ℕ) (new : List Noted) (rising : Bool) (g : Going old fs t i new rising) where
  behind : {f : Frame} → i < length fs → get_or fs i zero_frame ≡ f → (gs : List Frame) → gs ++ take (i + 1) fs ≡ (gs ++ take i fs) ++ f ∷ []
  behind {f} h e gs = rw (add-one, take-suc fs i zero_frame h, e) (sym (append_assoc gs (take i fs) (f ∷ [])))

  pub one_more : {f : Frame} {next : List Noted} {turn still : Bool} → i < length fs → get_or fs i zero_frame ≡ f → f.source < most_rows → newests next ≡ set (newests new) f.source (max (get_or (newests new) f.source 0) f.taken) → counts next ≡ set (counts new) f.source (get_or (counts new) f.source 0 + 1) → turn ≡ in_turn (period_of (get_or t.rows f.source no_row)) (get_or (counts new) f.source 0) (get_or (newests new) f.source 0) f.taken → ((still ≡ true) → (rising ≡ true) × (turn ≡ true)) → Going old fs t (i + 1) next still
  one_more {f} h e k p q r up =
      record {
        few = λ j l. rw q (grows (counts new) f.source j (65 + (i + 1)) (get_or (counts new) f.source 0 + 1) (omega (arith, g.few f.source k)) (omega (arith, g.few j l)));
        noted = λ gs n. rw (behind h e gs, p, q) (noted_here (gs ++ take i fs) (newests new) (counts new) (g.noted gs n) f k);
        apart = λ s gs n a. rw (behind h e gs) (apart_here (gs ++ take i fs) (newests new) (counts new) (g.noted gs n) f t k (sym r ∙ (up s).1) (g.apart (up s).0 gs n a));
      }

  module _ (h : length fs ≤ i) where
    pub all_noted : Behind fs old new
    all_noted gs n = rw (take_all i fs h) at (g.noted gs n)

    pub all_apart : rising ≡ true → StillApart fs t old
    all_apart e gs n a = rw (take_all i fs h) at (g.apart e gs n a)

-- no row has many
few_of : (n : ℕ) (fs : List Frame) {xs ns : List ℕ} → length fs ≤ n → Notes fs xs ns → Few n ns
few_of n fs l m k h = rw (m.counts k h) (omega (arith, taken_few k fs, l))

pub few_first : (w : Wire) (a : Queue class_places) {xs ns : List ℕ} → a.count ≤ class_places → Notes (sending w ++ take a.count a.frames) xs ns → Few 65 ns
few_first w a h n =
    few_of 65 (sending w ++ take a.count a.frames) (omega (arith, one_sending w, length-append (sending w) (take a.count a.frames), length-take a.count a.frames)) n

pub few_noted : (w : Wire) (a b : Queue class_places) (xs ns : List ℕ) → a.count ≤ class_places → b.count ≤ class_places → Notes (in_record w a b) xs ns → Few 255 ns
few_noted w a b xs ns ha hb n =
    few_of 255 (in_record w a b) (omega (arith, one_sending w, length-append (sending w) (take a.count a.frames ++ take b.count b.frames), length-append (take a.count a.frames) (take b.count b.frames), length-take a.count a.frames, length-take b.count b.frames)) n
