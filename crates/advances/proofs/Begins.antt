-- What a sound port has for the byte-times on its numbers, and what they leave.
use Prim.Native.Nat.{ℕ, suc, ◌*◌, ◌≤◌}
use mathlib.Core.Bool.{Bool, true, false, cond, ◌&&◌, false≢true}
use mathlib.Core.List.{List, [], ◌∷◌}
use mathlib.Core.Path.{◌≡◌, refl, sym, ap}
use native.Mathlib.Nat.{mul-le-mul}
use native.Mathlib.Omega.{arith}
use lib.IntN.{ℤ, pos, negsuc}
use lib.Dec.{leb}
use lib.ListN.{length}
use borrow.Author.Tests.{le-leb, leb-true, eqb-true}
use Rattle.table.specs.declared.Class.{Class}
use Rattle.table.specs.declared.Class.TheVariants.{A, B}
use Rattle.table.specs.Limits.{D, most_slope, most_size, least_size}
use Rattle.table.proofs.Laws as table
use Rattle.planner.specs.Sums.{idle, send, largest, best_size}
use Rattle.planner.specs.Bound.{blocking}
use Rattle.planner.proofs.Laws as law
use Rattle.machine.specs.declared.Frame.{Frame}
use Rattle.machine.specs.Limits.{most_steps, best_places}
use Rattle.machine.specs.State.{State, credit, queue}
use Rattle.machine.specs.Time.{shaped, unshaped, owner, progress}
use Rattle.machine.specs.Record.{all_of, between, names_row, is_best, row_in, size_within, row_size, credit_sound, best_sound, names_sound, queues_sound, sizes_sound}
use Rattle.machine.specs.Effects.{Room}
use Rattle.machine.proofs.FromSound.{Clauses, is_accepted_lem, in_class_places}
use Rattle.bytetime.specs.declared.Sender.{Sender}
use Rattle.bytetime.specs.declared.Sender.TheVariants.{Nobody, ClassA, ClassB, BestEffort}
use Rattle.bytetime.specs.declared.Hot.{Hot}
use Rattle.bytetime.specs.declared.Fixed.{Fixed}
use Rattle.bytetime.specs.declared.Ran.{Ran}
use Rattle.bytetime.specs.Bytes.{run_hot, reach, near_hot, steps_of}
use Rattle.bytetime.specs.Ports.{hot_of, fixed_of, HeadFits, Fits, SameRun}
use Rattle.bytetime.proofs.Tied.{as_machine}
use Rattle.advances.specs.Steps.{left_by}

module _ (s : State) (c : Clauses s) where
  -- ---- the heads of the queues
  row_head : (d : Class) (q : List Frame) → all_of (names_row s.table) q ≡ true → all_of (row_in d s.table) q ≡ true → all_of (row_size s.table) q ≡ true → HeadFits s.table (shaped d) q
  unfolding owner
  row_head d [] n i z = record { owned = λ e. absurd (false≢true e); bytes = λ e. absurd (false≢true e) }
  row_head d (f ∷ q) n i z =
      let named = (table.and-true (names_row s.table f) _ n).0 in
      let inside = table.same_is d _ (table.and-true (row_in d s.table f) _ i).0 in
      let sized = leb-true least_size f.size (table.and-true (leb least_size f.size) _ (table.and-true (row_size s.table f) _ z).0).0 in
      record { owned = λ e. rw named (ap shaped (sym inside)); bytes = λ e. omega arith }

  best_head : (q : List Frame) → all_of is_best q ≡ true → (most : ℕ) → all_of (size_within most) q ≡ true → HeadFits s.table unshaped q
  unfolding owner
  best_head [] b most z = record { owned = λ e. absurd (false≢true e); bytes = λ e. absurd (false≢true e) }
  best_head (f ∷ q) b most z =
      let marked = eqb-true f.source 32 (table.and-true (is_best f) _ b).0 in
      let out : length s.table.rows ≤ f.source = omega (arith, law.rows_most s.table (is_accepted_lem s c)) in
      let sized = leb-true least_size f.size (table.and-true (leb least_size f.size) _ (table.and-true (size_within most f) _ z).0).0 in
      record { owned = λ e. rw (table.unused s.table f.source out) refl; bytes = λ e. omega arith }

  of_both : (d : Class) (ok : Frame → Bool) (rest : Bool) → ((all_of ok s.a && all_of ok s.b) && rest) ≡ true → all_of ok (queue d s) ≡ true
  of_both A ok rest e = (table.and-true (all_of ok s.a) (all_of ok s.b) (table.and-true (all_of ok s.a && all_of ok s.b) rest e).0).0
  of_both B ok rest e = (table.and-true (all_of ok s.a) (all_of ok s.b) (table.and-true (all_of ok s.a && all_of ok s.b) rest e).0).1

  names : (d : Class) → all_of (names_row s.table) (queue d s) ≡ true
  unfolding names_sound
  names d = of_both d (names_row s.table) _ c.names

  classes : (d : Class) → all_of (row_in d s.table) (queue d s) ≡ true
  unfolding queues_sound
  classes A = (table.and-true _ (all_of (row_in B s.table) s.b) (table.and-true (all_of (row_in A s.table) s.a && all_of (row_in B s.table) s.b) (all_of is_best s.best) c.queues).0).0
  classes B = (table.and-true (all_of (row_in A s.table) s.a) _ (table.and-true (all_of (row_in A s.table) s.a && all_of (row_in B s.table) s.b) (all_of is_best s.best) c.queues).0).1

  sizes : (d : Class) → all_of (row_size s.table) (queue d s) ≡ true
  unfolding sizes_sound
  sizes d = of_both d (row_size s.table) _ c.sizes

  class_head : (d : Class) → HeadFits s.table (shaped d) (queue d s)
  class_head d = row_head d (queue d s) (names d) (classes d) (sizes d)

  unshaped_head : HeadFits s.table unshaped s.best
  unfolding queues_sound sizes_sound
  unshaped_head =
      let rest = (table.and-true (all_of (row_size s.table) s.a && all_of (row_size s.table) s.b) _ c.sizes).1 in
      best_head s.best (table.and-true (all_of (row_in A s.table) s.a && all_of (row_in B s.table) s.b) _ c.queues).1 (best_size s.table) (table.and-true (all_of (size_within (best_size s.table)) s.best) _ rest).0

  fits : Fits s
  fits = record { a = class_head A; b = class_head B; best = unshaped_head }

  -- ---- the numbers are within reach
  closer : (low high : ℕ) (z : ℤ) → low ≤ reach → high ≤ reach → between low high z ≡ true → between reach reach z ≡ true
  closer low high (pos n) l h e = le-leb n reach (omega (arith, leb-true n high e))
  closer low high (negsuc n) l h e = le-leb (suc n) reach (omega (arith, leb-true (suc n) low e))

  credit_near : (d : Class) → credit_sound d s ≡ true → between reach reach (credit d s) ≡ true
  unfolding credit_sound
  credit_near d e =
      let ok = is_accepted_lem s c in
      let slow : send d s.table ≤ D = omega arith in
      let down : send d s.table * largest d s.table ≤ D * most_size = mul-le-mul slow (law.largest_most s.table ok d) in
      let up : idle d s.table * blocking d s.table ≤ most_slope * (5 * most_size) = mul-le-mul (law.idle_most s.table ok d) (law.blocking_most s.table ok d) in
      closer (send d s.table * largest d s.table) (idle d s.table * blocking d s.table) (credit d s) (omega (arith, down)) (omega (arith, up)) e

  near : near_hot (hot_of s) (fixed_of s) ≡ true
  unfolding hot_of fixed_of
  near =
      let ok = is_accepted_lem s c in
      rw (le-leb (idle A s.table) D (omega (arith, law.idle_most s.table ok A)), le-leb (idle B s.table) D (omega (arith, law.idle_most s.table ok B)), credit_near A c.credit_a, credit_near B c.credit_b) refl

  all_steps : (n : ℕ) → n ≤ most_steps → steps_of n (hot_of s) (fixed_of s) ≡ n
  unfolding steps_of
  all_steps n few = rw (le-leb n most_steps few, near) refl

  -- the run on a sound port's numbers is the machine's progress
  pub same_run : (n : ℕ) → n ≤ most_steps → {h : Hot} {x : Fixed} {r : Ran} → h ≡ hot_of s → x ≡ fixed_of s → r ≡ run_hot (steps_of n h x) h x → SameRun s (progress n s) r
  same_run n few eh ex er =
      let z : run_hot (steps_of n (hot_of s) (fixed_of s)) (hot_of s) (fixed_of s) ≡ run_hot n (hot_of s) (fixed_of s) = rw (all_steps n few) refl in
      rw (er, eh, ex, z) (as_machine s fits n)

  -- and there is room for the queue whose head goes out
  pub room_for : (m : Bool) (w : Sender) → Room (left_by m w) s
  unfolding best_sound
  room_for false w = tt
  room_for true Nobody = tt
  room_for true ClassA = in_class_places s c A
  room_for true ClassB = in_class_places s c B
  room_for true BestEffort = leb-true (length s.best) best_places c.best

pub steps_most : (n : ℕ) (h : Hot) (x : Fixed) → steps_of n h x ≤ n
unfolding steps_of
steps_most n h x = by_test (leb n most_steps && near_hot h x)
  where
    by_test : (b : Bool) → cond b n 0 ≤ n
    by_test true = omega arith
    by_test false = omega arith
