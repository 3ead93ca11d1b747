-- Instants that are a period apart: those that rise by a period each are; and in any order, of a stretch of n periods they take n at most. So where the newest is a period old, and the oldest younger than some
-- age, there are fewer than that age has periods.
use Prim.Native.Nat.{ℕ, zero, suc, ◌+◌, ◌-◌, ◌*◌, ◌≤◌, ◌<◌, max}
use mathlib.Core.Bool.{Bool, true, false, cond, not}
use mathlib.Core.List.{List, [], ◌∷◌}
use mathlib.Core.Path.{◌≡◌, refl}
use native.Mathlib.Nat.{suc-mul, lt_of_not-le}
use native.Mathlib.Omega.{arith}
use lib.Dec.{ltb}
use lib.ListN.{length}
use borrow.Author.Tests.{leb-true, le-leb, ltb-true, ltb-false}
use Rattle.table.proofs.Laws as table
use Rattle.machine.specs.Record.{apart, apart_from, spaced, newest_of}

-- what holds of each instant
abbrev pub EachInstant : (ℕ → Type 0) → List ℕ → Type 0
EachInstant P [] = Unit {0}
EachInstant P (x ∷ xs) = P x × EachInstant P xs

-- ---- instants in order
-- each a period or more after the one before, from x on
abbrev pub Rising : ℕ → ℕ → List ℕ → Type 0
Rising p x [] = Unit {0}
Rising p x (y ∷ ys) = (x + p ≤ y) × Rising p y ys

far : (p x y : ℕ) (ys : List ℕ) → x + p ≤ y → Rising p y ys → apart_from p x (y ∷ ys) ≡ true
far p x y [] g h = rw (le-leb p ((x - y) + (y - x)) (omega arith)) refl
far p x y (z ∷ zs) g h = rw (le-leb p ((x - y) + (y - x)) (omega arith)) (far p x z zs (omega (arith, h.0)) h.1)

pub rising_spaced : (p x : ℕ) (ys : List ℕ) → Rising p x ys → spaced p (x ∷ ys) ≡ true
rising_spaced p x [] h = refl
rising_spaced p x (y ∷ ys) h = rw (far p x y ys h.0 h.1) (rising_spaced p y ys h.1)

-- ---- instants in any order
-- those of a list that pass a test
keep : (ℕ → Bool) → List ℕ → List ℕ
keep ok [] = []
keep ok (x ∷ xs) = cond (ok x) (x ∷ keep ok xs) (keep ok xs)

module _ (ok : ℕ → Bool) where
  keep_each : (P Q : ℕ → Type 0) → ((x : ℕ) → ok x ≡ true → P x → Q x) → (xs : List ℕ) → EachInstant P xs → EachInstant Q (keep ok xs)
  unfolding keep
  keep_each P Q f [] p = tt
  keep_each P Q f (x ∷ xs) p = go (ok x) refl (keep_each P Q f xs p.1)
    where
      go : (b : Bool) → ok x ≡ b → EachInstant Q (keep ok xs) → EachInstant Q (cond b (x ∷ keep ok xs) (keep ok xs))
      go true e rest = (f x e p.0, rest)
      go false e rest = rest

  keep_apart : (p x : ℕ) (xs : List ℕ) → apart_from p x xs ≡ true → apart_from p x (keep ok xs) ≡ true
  unfolding keep
  keep_apart p x [] e = refl
  keep_apart p x (y ∷ ys) e = go (ok y) (keep_apart p x ys both.1)
    where
      both : (apart p x y ≡ true) × (apart_from p x ys ≡ true)
      both = table.and-true (apart p x y) (apart_from p x ys) e

      go : (b : Bool) → apart_from p x (keep ok ys) ≡ true → apart_from p x (cond b (y ∷ keep ok ys) (keep ok ys)) ≡ true
      go true rest = rw both.0 rest
      go false rest = rest

  keep_spaced : (p : ℕ) (xs : List ℕ) → spaced p xs ≡ true → spaced p (keep ok xs) ≡ true
  unfolding keep
  keep_spaced p [] e = refl
  keep_spaced p (x ∷ xs) e = go (ok x) (keep_spaced p xs both.1)
    where
      both : (apart_from p x xs ≡ true) × (spaced p xs ≡ true)
      both = table.and-true (apart_from p x xs) (spaced p xs) e

      go : (b : Bool) → spaced p (keep ok xs) ≡ true → spaced p (cond b (x ∷ keep ok xs) (keep ok xs)) ≡ true
      go true rest = rw (keep_apart p x xs both.0) rest
      go false rest = rest

keep_length : (ok : ℕ → Bool) (xs : List ℕ) → length xs ≡ length (keep ok xs) + length (keep (λ x. not (ok x)) xs)
unfolding keep
keep_length ok [] = refl
keep_length ok (x ∷ xs) = go (ok x) (keep_length ok xs)
  where
    go : (b : Bool) → length xs ≡ length (keep ok xs) + length (keep (λ x. not (ok x)) xs) → suc (length xs) ≡ length (cond b (x ∷ keep ok xs) (keep ok xs)) + length (cond (not b) (x ∷ keep (λ x. not (ok x)) xs) (keep (λ x. not (ok x)) xs))
    go true e = omega arith
    go false e = omega arith

-- of a stretch of one period
one_of : (p top : ℕ) (xs : List ℕ) → spaced p xs ≡ true → EachInstant (λ x. (x ≤ top) × (top < x + p)) xs → length xs ≤ 1
one_of p top [] e h = omega arith
one_of p top (x ∷ []) e h = omega arith
one_of p top (x ∷ y ∷ zs) e h =
    let far = leb-true p ((x - y) + (y - x)) (table.and-true (apart p x y) (apart_from p x zs) (table.and-true (apart_from p x (y ∷ zs)) (spaced p (y ∷ zs)) e).0).0 in
    absurd (omega (arith, h.0.0, h.0.1, h.1.0.0, h.1.0.1))

-- of a stretch of n periods
fits : (p : ℕ) (n top : ℕ) (xs : List ℕ) → spaced p xs ≡ true → EachInstant (λ x. (x ≤ top) × (top < x + n * p)) xs → length xs ≤ n
fits p zero top [] e h = omega arith
fits p zero top (x ∷ xs) e h = absurd (omega (arith, h.0.0, h.0.1))
fits p (suc n) top xs e h =
    let near : ℕ → Bool = λ x. ltb top (x + p) in
    let closer = one_of p top (keep near xs) (keep_spaced near p xs e) (keep_each near _ (λ x. (x ≤ top) × (top < x + p)) (λ x b g. (g.0, ltb-true top (x + p) b)) xs h) in
    let farther =
    fits p n (top - p) (keep (λ x. not (near x)) xs) (keep_spaced (λ x. not (near x)) p xs e)
    (keep_each (λ x. not (near x)) (λ x. (x ≤ top) × (top < x + suc n * p)) (λ x. (x ≤ top - p) × (top - p < x + n * p)) (λ x b g. below x b g) xs h) in
    omega (arith, keep_length near xs)
  where
    not_near : (b : Bool) → not b ≡ true → b ≡ false
    not_near true e = let z : ◌≡◌ {A = ℕ} 0 1 = cc in absurd (omega arith)
    not_near false e = refl

    below : (x : ℕ) → not (ltb top (x + p)) ≡ true → (x ≤ top) × (top < x + suc n * p) → (x ≤ top - p) × (top - p < x + n * p)
    below x b g =
        let far : x + p ≤ top = ltb-false top (x + p) (not_near (ltb top (x + p)) b) in
        let high : top < x + (n * p + p) = rw (suc-mul n p) at g.1 in
        (omega arith, omega arith)

newest_most : (xs : List ℕ) → EachInstant (λ x. x ≤ newest_of xs) xs
newest_most [] = tt
newest_most (x ∷ xs) = (omega arith, raise xs (newest_most xs))
  where
    raise : (ys : List ℕ) → EachInstant (λ y. y ≤ newest_of xs) ys → EachInstant (λ y. y ≤ max x (newest_of xs)) ys
    raise [] h = tt
    raise (y ∷ ys) h = (omega (arith, h.0), raise ys h.1)

each_both : (P Q R : ℕ → Type 0) → ((x : ℕ) → P x → Q x → R x) → (xs : List ℕ) → EachInstant P xs → EachInstant Q xs → EachInstant R xs
each_both P Q R f [] p q = tt
each_both P Q R f (x ∷ xs) p q = (f x p.0 q.0, each_both P Q R f xs p.1 q.1)

-- the newest a period old, and none as old as the age: with one more their periods are no longer than the age
pub room_left : (p age now : ℕ) (xs : List ℕ) → 0 < age → spaced p xs ≡ true → newest_of xs + p ≤ now → EachInstant (λ x. now - x < age) xs → length xs * p < age
room_left p age now [] some e old young = omega arith
room_left p age now (y ∷ ys) some e old young = lt_of_not-le too_many
  where
    too_many : age ≤ suc (length ys) * p → ⊥
    too_many h =
        let wide : age ≤ length ys * p + p = rw (suc-mul (length ys) p) at h in
        let few = fits p (length ys) (newest_of (y ∷ ys)) (y ∷ ys) e (each_both _ _ (λ x. (x ≤ newest_of (y ∷ ys)) × (newest_of (y ∷ ys) < x + length ys * p)) (λ x top g. (top, omega arith)) (y ∷ ys) (newest_most (y ∷ ys)) young) in
        omega arith
