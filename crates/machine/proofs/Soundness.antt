-- No clause of "broken" holds of a port that keeps the invariant: no call meets 18.
use Prim.Native.Nat.{ℕ, zero, suc, ◌+◌, ◌-◌, ◌≤◌, ◌<◌}
use mathlib.Core.Bool.{Bool, true, false, cond, false≢true, ◌&&◌, ◌||◌}
use mathlib.Core.List.{List, [], ◌∷◌, ◌++◌, append-nil}
use mathlib.Core.Path.{◌≡◌, refl, sym, ◌∙◌, ap}
use native.Mathlib.Nat.{lt-suc_self, lt_trans}
use native.Mathlib.Omega.{arith}
use lib.IntN.{ℤ, pos, negsuc}
use lib.Dec.{leb, ltb, eqb}
use lib.ListN.{length, get_or}
use borrow.Author.Tests.{lt-ltb, le-leb, eq-eqb, eqb-true}
use Rattle.table.specs.declared.Class.{Class}
use Rattle.table.specs.declared.Class.TheVariants.{A, B}
use Rattle.table.specs.Wire.{period_of}
use Rattle.table.specs.Rows.{Contents, row_at, same_class, in_use, InUse, count_right}
use Rattle.table.proofs.Laws as table
use Rattle.planner.specs.Sums.{best_size}
use Rattle.planner.specs.Bound.{residence, most_of, bounds_of}
use Rattle.planner.proofs.Laws as law
use Rattle.machine.specs.declared.Frame.{Frame}
use Rattle.machine.specs.declared.Wire.{Wire}
use Rattle.machine.specs.declared.Wire.TheVariants.{Free, Sending}
use Rattle.machine.specs.State.{Instant, never, at, State, credit, queue}
use Rattle.machine.specs.Time.{Owner, shaped, unshaped, owner, owns}
use Rattle.machine.specs.Record.{all_of, on_sending, between, names_row, is_best, row_in, size_within, row_size, size_by, none_after, taken_by, taken_in, sending, taken_of, up_to, each_row, spaced, ends_at, row_only, table_sound, count_sound, same_numbers, bounds_sound, clock_sound, credit_sound, best_sound, names_sound, queues_sound, sizes_sound, left_sound, frames_taken, rows_taken, held_sound, apart_sound, latest_sound, age_sound, sound}
use Rattle.machine.proofs.Credit.{Headroom}
use Rattle.machine.proofs.OneClass.{All}
use Rattle.machine.proofs.Chain.{chain_spaced, chain_ends, taken_append, taken_none}
use Rattle.machine.proofs.Invariant.{look_by, look, line, RowFrame, BestFrame, WireFrame, OnTheWire, own_frames, row_instants, NoneAfter, Inv, named_owner, ceiling}
use Rattle.machine.proofs.Byte.{row_sends}
use Rattle.machine.proofs.Age.{Young, YoungBy, YoungOn, queues_young, wire_young, few_frames}

-- ---- tests from facts
both : {x y : Bool} → x ≡ true → y ≡ true → (x && y) ≡ true
both e f = rw (e, f) refl

either : (x : Bool) {y : Bool} → y ≡ true → (x || y) ≡ true
either true e = refl
either false e = e

all_pass : (ok : Frame → Bool) (P : Frame → Type 0) → ((f : Frame) → P f → ok f ≡ true) → (q : List Frame) → All P q → all_of ok q ≡ true
all_pass ok P each [] p = refl
all_pass ok P each (f ∷ q) p = rw (each f p.0) (all_pass ok P each q p.1)

credit_within : (c : ℤ) (u low high : ℕ) → Headroom u c low → u ≤ high + low → between low high c ≡ true
credit_within (pos n) u low high h top = le-leb n high (omega arith)
credit_within (negsuc n) u low high h top = le-leb (suc n) low (omega arith)

-- a row's frame, test by test
module _ (c : Class) (t : Contents) (f : Frame) (r : RowFrame c t f) where
  names_row_lem : names_row t f ≡ true
  names_row_lem = table.used t f.source r.names

  row_in_lem : row_in c t f ≡ true
  row_in_lem = rw r.class (table.same_self c)

  row_size_lem : row_size t f ≡ true
  row_size_lem = both (le-leb _ _ r.least) (le-leb _ _ r.most)

-- a best-effort frame, test by test
module _ (t : Contents) (now : ℕ) (f : Frame) (r : BestFrame t now f) where
  is_best_lem : is_best f ≡ true
  is_best_lem = eq-eqb _ _ r.mark

  best_size_lem : size_within (best_size t) f ≡ true
  best_size_lem = both (le-leb _ _ r.least) (le-leb _ _ r.most)

up_to_lem : (n : ℕ) (ok : ℕ → Bool) → ((k : ℕ) → k < n → ok k ≡ true) → up_to n ok ≡ true
up_to_lem zero ok each = refl
up_to_lem (suc n) ok each = rw (up_to_lem n ok (λ k h. each k (lt_trans h (lt-suc_self n)))) (each n (lt-suc_self n))

same_numbers_lem : (xs : List ℕ) → same_numbers xs xs ≡ true
same_numbers_lem [] = refl
same_numbers_lem (x ∷ xs) = rw (eq-eqb x x refl) (same_numbers_lem xs)

none_after_lem : (now : ℕ) (is : List Instant) → NoneAfter now is → none_after now is ≡ true
none_after_lem now [] p = refl
none_after_lem now (never ∷ is) p = none_after_lem now is p
none_after_lem now (at k ∷ is) p = rw (le-leb k now p.0) (none_after_lem now is p.1)

-- ---- the instants of a row's frames, over all frames in the port and over its class's
wire_same : (t : Contents) (k : ℕ) (w : Wire) → InUse t k → taken_in k (sending w) ≡ taken_in k (own_frames (look (row_at t k).class t w))
wire_same t k Free h = refl
wire_same t k (Sending f l) h = go (eqb f.source k) refl
  where
    none : (b : Bool) → eqb f.source k ≡ false → [] ≡ taken_in k (own_frames (look_by b f l))
    none true e = rw e refl
    none false e = refl

    go : (b : Bool) → eqb f.source k ≡ b → taken_in k (f ∷ []) ≡ taken_in k (own_frames (look_by (owns (row_at t k).class (owner t f)) f l))
    go true e =
        let is = eqb-true f.source k e in
        let own : owner t f ≡ shaped (row_at t k).class = named_owner t f (rw is h) ∙ ap (λ (j : ℕ). shaped (row_at t j).class) is in
        rw (own, table.same_self (row_at t k).class) refl
    go false e = rw e (none (owns (row_at t k).class (owner t f)) e)

-- no frame of another class's queue is the row's
none_other : (c d : Class) (t : Contents) (k : ℕ) (q : List Frame) → All (RowFrame d t) q → (row_at t k).class ≡ c → same_class c d ≡ false → taken_in k q ≡ []
none_other c d t k q p e f = taken_none k q (names q p)
  where
    names : (q : List Frame) → All (RowFrame d t) q → All (λ g. g.source ≡ k → ⊥) q
    names [] p = tt
    names (g ∷ q) p = ((λ z. false≢true (sym f ∙ rw (← e, ← p.0.class, z) (table.same_self (row_at t k).class))), names q p.1)

module _ (s : State) (u : Class → ℕ) (i : Inv s u) where
  table_sound_lem : table_sound s ≡ true
  unfolding table_sound
  table_sound_lem = rw (law.standing_only_if s.table i.always.accepted) refl

  count_sound_lem : count_sound s ≡ true
  unfolding count_sound count_right
  count_sound_lem = table.used s.table _ i.always.count

  bounds_sound_lem : bounds_sound s ≡ true
  unfolding bounds_sound
  bounds_sound_lem = rw i.always.bounds (same_numbers_lem (bounds_of s.table))

  clock_sound_lem : clock_sound s ≡ true
  unfolding clock_sound
  clock_sound_lem = le-leb _ _ i.always.clock

  credit_sound_lem : (c : Class) → credit_sound c s ≡ true
  unfolding credit_sound
  credit_sound_lem c = credit_within (credit c s) (u c) _ _ (i.always.ground c).head (ceiling s.table i.always.accepted (line s.table s.wire) u i.timed.ceilings c)

  best_sound_lem : best_sound s ≡ true
  unfolding best_sound
  best_sound_lem = le-leb _ _ i.always.frames.few

  -- what holds of each waiting row's frame, in either queue
  in_queues : (ok : Class → Frame → Bool) → ((c : Class) (f : Frame) → RowFrame c s.table f → ok c f ≡ true) → (all_of (ok A) s.a && all_of (ok B) s.b) ≡ true
  in_queues ok each = both (all_pass (ok A) (RowFrame A s.table) (each A) s.a (i.always.frames.rows A)) (all_pass (ok B) (RowFrame B s.table) (each B) s.b (i.always.frames.rows B))

  -- and of the frame on the wire, by its owner
  on_wire_lem : (ok : Owner → Frame → Bool) → ((o : Owner) (f : Frame) (l : ℕ) → WireFrame o s.table s.clock f l → ok o f ≡ true) → (w : Wire) → OnTheWire s.table s.clock w → on_sending (λ f left. ok (owner s.table f) f) w ≡ true
  on_wire_lem ok each Free r = refl
  on_wire_lem ok each (Sending f l) r = each (owner s.table f) f l r

  wire_names : (o : Owner) (f : Frame) (l : ℕ) → WireFrame o s.table s.clock f l → (names_row s.table f || is_best f) ≡ true
  wire_names (shaped c) f l r = rw (names_row_lem c s.table f r) refl
  wire_names unshaped f l r = either (names_row s.table f) (is_best_lem s.table s.clock f r.0)

  wire_size_lem : (o : Owner) (f : Frame) (l : ℕ) → WireFrame o s.table s.clock f l → size_by o s.table f ≡ true
  wire_size_lem (shaped c) f l r = row_size_lem c s.table f r
  wire_size_lem unshaped f l r = best_size_lem s.table s.clock f r.0

  names_sound_lem : names_sound s ≡ true
  unfolding names_sound
  names_sound_lem = both (in_queues (λ c. names_row s.table) (λ c f r. names_row_lem c s.table f r)) (on_wire_lem (λ o f. names_row s.table f || is_best f) wire_names s.wire i.always.frames.wire)

  queues_sound_lem : queues_sound s ≡ true
  unfolding queues_sound
  queues_sound_lem = both (in_queues (λ c. row_in c s.table) (λ c f r. row_in_lem c s.table f r)) (all_pass is_best (BestFrame s.table s.clock) (is_best_lem s.table s.clock) s.best i.always.frames.best)

  sizes_sound_lem : sizes_sound s ≡ true
  unfolding sizes_sound
  sizes_sound_lem =
      both (in_queues (λ c. row_size s.table) (λ c f r. row_size_lem c s.table f r))
      (both (all_pass (size_within (best_size s.table)) (BestFrame s.table s.clock) (best_size_lem s.table s.clock) s.best i.always.frames.best) (on_wire_lem (λ o f. size_by o s.table f) wire_size_lem s.wire i.always.frames.wire))

  -- its bytes left and its instant
  sends : (f : Frame) (l : ℕ) → s.wire ≡ Sending f l → (o : Owner) → owner s.table f ≡ o → WireFrame o s.table s.clock f l → (1 ≤ l) × (l ≤ f.size) × (f.taken ≤ s.clock)
  sends f l e (shaped c) own r = let m = row_sends s u i f l e c own in (m.some, m.whole, m.past)
  sends f l e unshaped own r = (r.1, r.2, r.0.past)

  pub sending_facts : (f : Frame) (l : ℕ) → s.wire ≡ Sending f l → (1 ≤ l) × (l ≤ f.size) × (f.taken ≤ s.clock)
  sending_facts f l e = sends f l e (owner s.table f) refl (rw e at i.always.frames.wire)

  wire_left : (w : Wire) → s.wire ≡ w → on_sending (λ f left. leb 1 left && leb left f.size) w ≡ true
  wire_left Free e = refl
  wire_left (Sending f l) e = let m = sending_facts f l e in both (le-leb 1 l m.0) (le-leb l f.size m.1)

  left_sound_lem : left_sound s ≡ true
  unfolding left_sound
  left_sound_lem = wire_left s.wire refl

  wire_taken : (w : Wire) → s.wire ≡ w → on_sending (λ f left. taken_by s.clock f) w ≡ true
  wire_taken Free e = refl
  wire_taken (Sending f l) e = le-leb f.taken s.clock (sending_facts f l e).2

  taken_by_lem : (q : List Frame) → All (λ f. f.taken ≤ s.clock) q → all_of (taken_by s.clock) q ≡ true
  taken_by_lem q p = all_pass (taken_by s.clock) (λ f. f.taken ≤ s.clock) (λ f h. le-leb f.taken s.clock h) q p

  frames_taken_lem : frames_taken s ≡ true
  unfolding frames_taken
  frames_taken_lem =
      both (both (taken_by_lem s.a (i.always.ground A).past) (taken_by_lem s.b (i.always.ground B).past))
      (both (all_pass (taken_by s.clock) (BestFrame s.table s.clock) (λ f r. le-leb f.taken s.clock r.past) s.best i.always.frames.best) (wire_taken s.wire refl))

  rows_taken_lem : rows_taken s ≡ true
  unfolding rows_taken
  rows_taken_lem = none_after_lem s.clock s.last i.always.instants.none_after_lem

  by_class : (c : Class) (k : ℕ) → (row_at s.table k).class ≡ c → taken_in k s.a ++ taken_in k s.b ≡ taken_in k (queue c s)
  by_class A k e = rw (none_other A B s.table k s.b (i.always.frames.rows B) e refl) (append-nil (taken_in k s.a))
  by_class B k e = rw (none_other B A s.table k s.a (i.always.frames.rows A) e refl) refl

  taken_is : (k : ℕ) → InUse s.table k → taken_of k s ≡ row_instants k s
  unfolding taken_of
  taken_is k h =
      let c = (row_at s.table k).class in
      rw (
        taken_append k (sending s.wire) (s.a ++ s.b),
        taken_append k s.a s.b,
        wire_same s.table k s.wire h,
        by_class c k refl,
        taken_append k (own_frames (look c s.table s.wire)) (queue c s),
      )
      refl

  -- what holds of each row's frames
  each_row_lem : (ok : ℕ → List ℕ → Bool) → ((k : ℕ) → InUse s.table k → ok k (row_instants k s) ≡ true) → each_row (λ k. ok k (taken_of k s)) s ≡ true
  each_row_lem ok each = up_to_lem (length s.table.rows) (λ k. cond (in_use s.table k) (ok k (taken_of k s)) true) (λ k h. go k (in_use s.table k) refl)
    where
      go : (k : ℕ) (b : Bool) → in_use s.table k ≡ b → cond b (ok k (taken_of k s)) true ≡ true
      go k true e = let u = table.is_used s.table k e in rw (taken_is k u) (each k u)
      go k false e = refl

  held_sound_lem : held_sound s ≡ true
  unfolding held_sound
  held_sound_lem = each_row_lem (λ k xs. leb (length xs) (most_of s.table (row_at s.table k))) (λ k h. le-leb _ _ (few_frames s u i k h))

  apart_sound_lem : apart_sound s ≡ true
  unfolding apart_sound
  apart_sound_lem = each_row_lem (λ k xs. spaced (period_of (row_at s.table k)) xs) (λ k h. chain_spaced _ (get_or s.last k never) (row_instants k s) (i.always.chain k h))

  latest_sound_lem : latest_sound s ≡ true
  unfolding latest_sound
  latest_sound_lem = each_row_lem (λ k xs. ends_at xs (get_or s.last k never)) (λ k h. chain_ends (period_of (row_at s.table k)) _ (row_instants k s) (i.always.chain k h))

  -- each row's frame is young
  young_waits : (q : List Frame) → All (Young s.table s.clock) q → all_of (λ f. ltb (s.clock - f.taken) (residence s.table (row_at s.table f.source))) q ≡ true
  young_waits q y = all_pass _ (Young s.table s.clock) (λ f y. lt-ltb _ _ y.young) q y

  young_sends : (w : Wire) → YoungOn s.table s.clock w → on_sending (λ f left. row_only (owner s.table f) (ltb (s.clock - f.taken) (residence s.table (row_at s.table f.source)))) w ≡ true
  young_sends Free y = refl
  young_sends (Sending f l) y = by_owner (owner s.table f) y
    where
      by_owner : (o : Owner) → YoungBy o s.table s.clock f → row_only o (ltb (s.clock - f.taken) (residence s.table (row_at s.table f.source))) ≡ true
      by_owner (shaped c) y = lt-ltb _ _ y.young
      by_owner unshaped y = refl

  age_sound_lem : age_sound s ≡ true
  unfolding age_sound
  age_sound_lem = both (both (young_waits s.a (queues_young s u i A)) (young_waits s.b (queues_young s u i B))) (young_sends s.wire (wire_young s u i))

  pub is_sound : sound s ≡ true
  unfolding sound
  is_sound = rw (table_sound_lem, count_sound_lem, bounds_sound_lem, clock_sound_lem, credit_sound_lem A, credit_sound_lem B, best_sound_lem, names_sound_lem, queues_sound_lem, sizes_sound_lem, left_sound_lem, frames_taken_lem, rows_taken_lem, held_sound_lem, apart_sound_lem, latest_sound_lem, age_sound_lem) refl
