-- The tests of the rows by their numbers: one number after the other, an empty one, and where rows or frames have no place.
use Prim.Native.Nat.{ℕ, zero, suc, ◌+◌, ◌-◌, ◌≤◌, ◌<◌}
use mathlib.Core.Bool.{Bool, true, false, false≢true, ◌&&◌, and-false}
use mathlib.Core.List.{List, [], ◌∷◌}
use mathlib.Core.Path.{◌≡◌, refl, sym, ◌∙◌, ap}
use native.Mathlib.Numerals.{add-one}
use native.Mathlib.Omega.{arith}
use lib.Dec.{leb}
use lib.ListN.{length, get_or}
use Rattle.std.specs.List.{list_all, enumerate_from}
use borrow.Author.Tests.{le-leb, lt-leb}
use Rattle.table.specs.declared.Class.{Class}
use Rattle.table.specs.declared.Class.TheVariants.{A, B}
use Rattle.table.specs.declared.Table.{Table}
use Rattle.table.specs.Limits.{most_rows, class_places}
use Rattle.table.specs.Wire.{paced, period_of}
use Rattle.table.specs.Rows.{is_there, Contents, row_at}
use Rattle.table.proofs.Laws as table
use Rattle.machine.specs.declared.Frame.{Frame}
use Rattle.machine.specs.declared.Queue.{Queue}
use Rattle.machine.specs.Record.{taken_in, up_to, apart_from, spaced}
use Rattle.machine.proofs.FromSound.{up_to_true}
use Rattle.spacing.specs.Spread.{in_places, spaced_test}

-- ---- a test of the first n numbers
module _ (n : ℕ) (ok : ℕ → Bool) where
  pub fails_at : (k : ℕ) → k < n → ok k ≡ false → false ≡ up_to n ok
  fails_at k h e = go (up_to n ok) refl
    where
      go : (b : Bool) → up_to n ok ≡ b → false ≡ up_to n ok
      go true p = absurd (false≢true (sym e ∙ up_to_true n ok p k h))
      go false p = sym p

  pub up_to_next : ok n ≡ true → up_to n ok ≡ true → up_to (n + 1) ok ≡ true
  up_to_next e p = rw (add-one, p, e) refl

pub every : (n : ℕ) (ok : ℕ → Bool) → ((k : ℕ) → k < n → ok k ≡ true) → up_to n ok ≡ true
every zero ok e = refl
every (suc n) ok e = rw (every n ok (λ k h. e k (omega (arith, h))), e n (omega arith)) refl

pub up_to_same : (n : ℕ) (ok too : ℕ → Bool) → ((k : ℕ) → k < n → ok k ≡ too k) → up_to n ok ≡ up_to n too
up_to_same zero ok too e = refl
up_to_same (suc n) ok too e = rw (up_to_same n ok too (λ k h. e k (omega arith)), e n (omega arith)) refl

-- the first number's test in front
up_front : (n : ℕ) (ok : ℕ → Bool) → up_to (suc n) ok ≡ (ok 0 && up_to n (λ k. ok (suc k)))
up_front zero ok = both (ok 0)
  where
    both : (b : Bool) → (true && b) ≡ (b && true)
    both true = refl
    both false = refl
up_front (suc n) ok = rw (up_front n ok) (three (ok 0) (up_to n (λ k. ok (suc k))) (ok (suc n)))
  where
    three : (a b c : Bool) → ((a && b) && c) ≡ (a && (b && c))
    three true b c = refl
    three false b c = refl

-- each thing of a list tested with its number
pub all_numbers : {X : Type 0} (test : ℕ × X → Bool) (d : X) (a : ℕ) (xs : List X) (ok : ℕ → Bool) → ((k : ℕ) → k < length xs → test (a + k, get_or xs k d) ≡ ok k) → list_all test (enumerate_from a xs) ≡ up_to (length xs) ok
all_numbers test d a [] ok e = refl
all_numbers test d a (x ∷ xs) ok e =
    let z : a + 0 ≡ a = omega arith in
    let first : test (a, x) ≡ ok 0 = rw z at (e 0 (omega arith)) in
    rw (up_front (length xs) ok, first) (ap (λ b. ok 0 && b) (all_numbers test d (a + 1) xs (λ k. ok (suc k)) (λ k h. let y : a + suc k ≡ a + 1 + k = omega arith in rw y at (e (suc k) (omega arith)))))

-- one that is made of two
pub up_to_both : (n : ℕ) (x y : ℕ → Bool) → up_to n (λ k. x k && y k) ≡ (up_to n x && up_to n y)
up_to_both zero x y = refl
up_to_both (suc n) x y = go (x n) (y n) (up_to n x) (up_to n y) (up_to_both n x y)
  where
    go : (a b c d : Bool) {e : Bool} → e ≡ (c && d) → (e && (a && b)) ≡ ((c && a) && (d && b))
    go a b true d {e} p = rw p (mid a b d)
      where
        mid : (a b d : Bool) → (d && (a && b)) ≡ (a && (d && b))
        mid true b d = refl
        mid false b true = refl
        mid false b false = refl
    go a b false d p = rw p refl

-- ---- an empty number has the period 0, and no two instants are nearer than that
apart_0 : (x : ℕ) (xs : List ℕ) → apart_from 0 x xs ≡ true
apart_0 x [] = refl
apart_0 x (y ∷ xs) = rw (le-leb 0 ((x - y) + (y - x)) (omega arith)) (apart_0 x xs)

spaced_0 : (xs : List ℕ) → spaced 0 xs ≡ true
spaced_0 [] = refl
spaced_0 (x ∷ xs) = rw (apart_0 x xs) (spaced_0 xs)

pub empty_spaced : (t : Contents) (fs : List Frame) (k : ℕ) → is_there (row_at t k) ≡ false → spaced_test t fs k ≡ true
unfolding spaced_test period_of paced
empty_spaced t fs k e = rw (table.not_there (row_at t k) e) (spaced_0 (taken_in k fs))

-- ---- places
abbrev pub queue_of : Class → Queue class_places → Queue class_places → Queue class_places
queue_of A a b = a
queue_of B a b = b

module _ (t : Table) (a b : Queue class_places) where
  pub no_row_lem : most_rows < t.count → in_places t a b ≡ false
  unfolding in_places
  no_row_lem h = rw (lt-leb t.count most_rows h) refl

  pub no_place : (c : Class) → class_places < (queue_of c a b).count → in_places t a b ≡ false
  unfolding in_places
  no_place A h = rw (lt-leb a.count class_places h) (and-false (leb t.count most_rows))
  no_place B h = rw (lt-leb b.count class_places h, and-false (leb a.count class_places)) (and-false (leb t.count most_rows))

  pub all_places : t.count ≤ most_rows → a.count ≤ class_places → b.count ≤ class_places → in_places t a b ≡ true
  unfolding in_places
  all_places g h i = rw (le-leb t.count most_rows g, le-leb a.count class_places h, le-leb b.count class_places i) refl
