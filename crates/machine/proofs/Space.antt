-- Space: the frames of a class queue are those of the class's rows, and no row has more in the port than it may have. Rule 20 keeps the sum of these within the
-- queue's places, at opening and at each join.
use Prim.Native.Nat.{ℕ, zero, suc, ◌+◌, ◌≤◌, ◌<◌}
use mathlib.Core.Bool.{Bool, true, false, cond, false≢true}
use mathlib.Core.List.{List, [], ◌∷◌}
use mathlib.Core.Path.{◌≡◌, refl, sym, ◌∙◌, ap}
use native.Mathlib.Nat.{lt_trans, lt-suc_self}
use native.Mathlib.Omega.{arith}
use lib.Dec.{eqb}
use lib.ListN.{length, get_or}
use borrow.Author.Tests.{ne_eqb, eqb-true, eqb-false}
use Rattle.table.specs.declared.Class.{Class}
use Rattle.table.specs.declared.Row.{Row}
use Rattle.table.specs.Rows.{no_row, Contents, row_at, InUse}
use Rattle.table.proofs.Laws as table
use Rattle.planner.specs.Sums.{in_class, counts, part, sum_over}
use Rattle.planner.specs.Bound.{most_of}
use Rattle.planner.specs.Opening.{IsAccepted}
use Rattle.planner.proofs.Laws as law
use Rattle.machine.specs.declared.Frame.{Frame}
use Rattle.machine.specs.Limits.{class_places}
use Rattle.machine.specs.Record.{taken_in}
use Rattle.machine.specs.Run.{count}
use Rattle.machine.proofs.OneClass.{All}

-- how many frames of a row wait in a queue
abbrev pub in_queue : ℕ → List Frame → ℕ
in_queue k q = length (taken_in k q)

pub one_more : (k : ℕ) (f : Frame) (q : List Frame) → in_queue k (f ∷ q) ≡ count (eqb f.source k) + in_queue k q
one_more k f q = go (eqb f.source k)
  where
    go : (b : Bool) → length (cond b (f.taken ∷ taken_in k q) (taken_in k q)) ≡ count b + length (taken_in k q)
    go true = omega arith
    go false = omega arith

-- the frames of a queue, row by row
tally : ℕ → List Frame → ℕ
tally zero q = 0
tally (suc n) q = tally n q + in_queue n q

hits : ℕ → ℕ → ℕ
hits zero k = 0
hits (suc n) k = hits n k + count (eqb k n)

hits_none : (n k : ℕ) → n ≤ k → hits n k ≡ 0
unfolding hits
hits_none zero k h = refl
hits_none (suc n) k h =
    let miss : count (eqb k n) ≡ 0 = ap count (ne_eqb k n (λ e. omega arith)) in
    omega (arith, hits_none n k (omega arith))

hits_once : (n k : ℕ) → k < n → hits n k ≡ 1
unfolding hits
hits_once zero k h = absurd (omega arith)
hits_once (suc n) k h = go (eqb k n) refl (hits_once n k)
  where
    go : (b : Bool) → eqb k n ≡ b → (k < n → hits n k ≡ 1) → hits n k + count (eqb k n) ≡ 1
    go true e rest =
        let one : count (eqb k n) ≡ 1 = ap count e in
        omega (arith, hits_none n k (omega (arith, eqb-true k n e)))
    go false e rest =
        let none : count (eqb k n) ≡ 0 = ap count e in
        omega (arith, rest (omega (arith, eqb-false k n e)))

tally_more : (n : ℕ) (f : Frame) (q : List Frame) → tally n (f ∷ q) ≡ tally n q + hits n f.source
unfolding tally hits
tally_more zero f q = refl
tally_more (suc n) f q = omega (arith, tally_more n f q, one_more n f q)

tally_none : (n : ℕ) → tally n [] ≡ 0
unfolding tally
tally_none zero = refl
tally_none (suc n) = omega (arith, tally_none n)

tally_all : (n : ℕ) (q : List Frame) → All (λ f. f.source < n) q → tally n q ≡ length q
tally_all n [] p = tally_none n
tally_all n (f ∷ q) p = omega (arith, tally_more n f q, hits_once n f.source p.0, tally_all n q p.1)

-- the numbers of each row, summed
sum_to : ℕ → (ℕ → ℕ) → ℕ
sum_to zero g = 0
sum_to (suc n) g = sum_to n g + g n

tally_most : (n : ℕ) (q : List Frame) (g : ℕ → ℕ) → ((k : ℕ) → k < n → in_queue k q ≤ g k) → tally n q ≤ sum_to n g
unfolding tally sum_to
tally_most zero q g few = omega arith
tally_most (suc n) q g few = omega (arith, tally_most n q g (λ k h. few k (lt_trans h (lt-suc_self n))), few n (lt-suc_self n))

sum_front : (n : ℕ) (g : ℕ → ℕ) → sum_to (suc n) g ≡ g 0 + sum_to n (λ k. g (suc k))
unfolding sum_to
sum_front zero g = omega arith
sum_front (suc n) g = omega (arith, sum_front n g)

-- a class's sum, row number by row number
sum_numbers : (c : Class) (f : Row → ℕ) (rs : List Row) → sum_over c f rs ≡ sum_to (length rs) (λ k. part c f (get_or rs k no_row))
unfolding sum_to
sum_numbers c f [] = law.sum_none c f
sum_numbers c f (r ∷ rs) = omega (arith, law.sum_more c f r rs, sum_numbers c f rs, sum_front (length rs) (λ k. part c f (get_or (r ∷ rs) k no_row)))

-- a frame of the class's rows
pub record Member (c : Class) (t : Contents) (f : Frame) : Type 0 where
  pub names : InUse t f.source
  pub class : in_class c (row_at t f.source) ≡ true

below : (c : Class) (t : Contents) (q : List Frame) → All (Member c t) q → All (λ f. f.source < length t.rows) q
below c t [] p = tt
below c t (f ∷ q) p = (p.0.names.below, below c t q p.1)

-- a number that does not count in the class has none in the queue
none_of : (c : Class) (t : Contents) (k : ℕ) (q : List Frame) → All (Member c t) q → counts c (row_at t k) ≡ false → in_queue k q ≡ 0
none_of c t k [] p e = refl
none_of c t k (f ∷ q) p e =
    let own : counts c (row_at t f.source) ≡ true = rw (p.0.class, p.0.names.there) refl in
    let miss : count (eqb f.source k) ≡ 0 = ap count (ne_eqb f.source k (λ z. false≢true (sym e ∙ rw z at own))) in
    omega (arith, one_more k f q, none_of c t k q p.1 e)

-- a queue whose rows keep to their counts
pub in_places_lem : (c : Class) (t : Contents) → IsAccepted t → (q : List Frame) → All (Member c t) q → ((k : ℕ) → InUse t k → in_queue k q ≤ most_of t (row_at t k)) → length q ≤ class_places
in_places_lem c t ok q members few =
    omega (arith, tally_all (length t.rows) q (below c t q members), tally_most (length t.rows) q (λ k. part c (most_of t) (row_at t k)) (λ k h. keeps k (counts c (row_at t k)) refl), sum_numbers c (most_of t) t.rows, law.most_sum c t, law.most_within t ok c)
  where
    keeps : (k : ℕ) → (b : Bool) → counts c (row_at t k) ≡ b → in_queue k q ≤ cond b (most_of t (row_at t k)) 0
    keeps k true e = few k (table.there_used t k (table.and-true (in_class c (row_at t k)) _ e).1)
    keeps k false e = omega (arith, none_of c t k q members e)
