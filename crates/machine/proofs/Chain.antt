-- Line 6: the instants of a row's frames in the port, oldest first, rise by at least a period, and the last of them is the row's last instant. So no two of them are
-- less than a period apart, and the newest is the row's last.
use Prim.Native.Nat.{ℕ, ◌+◌, ◌-◌, ◌*◌, ◌≤◌, ◌<◌, max}
use mathlib.Core.Bool.{Bool, true, false, cond}
use mathlib.Core.List.{List, [], ◌∷◌, ◌++◌}
use mathlib.Core.Path.{◌≡◌, refl, ap}
use native.Mathlib.Nat.{suc-mul}
use native.Mathlib.Omega.{arith}
use lib.Dec.{eqb}
use lib.ListN.{length}
use borrow.Author.Tests.{eq-eqb, ne_eqb, ltb-false, eqb-true}
use Rattle.machine.specs.declared.Frame.{Frame}
use Rattle.machine.specs.State.{Instant, never, at}
use Rattle.machine.specs.Record.{taken_in, spaced, newest_of, ends_at}
use Rattle.machine.specs.Calls.{too_soon}
use Rattle.machine.proofs.OneClass.{All}
use Rattle.machine.proofs.Spaced.{EachInstant, Rising, rising_spaced}

-- from x on
abbrev From : ℕ → ℕ → List ℕ → Instant → Type 0
From p x [] l = l ≡ at x
From p x (y ∷ ys) l = (x + p ≤ y) × From p y ys l

abbrev pub Chain : ℕ → List ℕ → Instant → Type 0
Chain p [] l = Unit {0}
Chain p (x ∷ xs) l = From p x xs l

pub not_soon : (l : Instant) (now p x : ℕ) → too_soon l now p ≡ false → l ≡ at x → p ≤ now - x
not_soon never now p x e q = let z : ◌≡◌ {A = ℕ} 0 1 = cc in absurd (omega arith)
not_soon (at j) now p x e q = let same : j ≡ x = cc in omega (arith, ltb-false (now - j) p e)

-- ---- a frame more, and the oldest gone
module _ (p : ℕ) (l : Instant) where
  from_more : (now x : ℕ) (ys : List ℕ) → 0 < p → too_soon l now p ≡ false → From p x ys l → From p x (ys ++ now ∷ []) (at now)
  from_more now x [] some e h = (omega (arith, not_soon l now p x e h), refl)
  from_more now x (y ∷ ys) some e h = (h.0, from_more now y ys some e h.1)

  pub chain_more : (now : ℕ) (xs : List ℕ) → 0 < p → too_soon l now p ≡ false → Chain p xs l → Chain p (xs ++ now ∷ []) (at now)
  chain_more now [] some e h = refl
  chain_more now (x ∷ xs) some e h = from_more now x xs some e h

  chain_less : (x : ℕ) (xs : List ℕ) → Chain p (x ∷ xs) l → Chain p xs l
  chain_less x [] h = tt
  chain_less x (y ∷ ys) h = h.1

  pub oldest_gone : (k : ℕ) (f : Frame) (fs : List Frame) → Chain p (taken_in k (f ∷ fs)) l → Chain p (taken_in k fs) l
  oldest_gone k f fs h = go (eqb f.source k) h
    where
      go : (b : Bool) → Chain p (cond b (f.taken ∷ taken_in k fs) (taken_in k fs)) l → Chain p (taken_in k fs) l
      go true h = chain_less f.taken (taken_in k fs) h
      go false h = h

  -- ---- what a chain says of its instants
  -- a row with a frame has a last instant, and the frames span a period each from there to the oldest
  span : (x : ℕ) (ys : List ℕ) → From p x ys l → (j : ℕ) → l ≡ at j → x + length ys * p ≤ j
  span x [] h j e = let same : j ≡ x = cc in omega arith
  span x (y ∷ ys) h j e = rw (suc-mul (length ys) p) (omega (arith, span y ys h.1 j e))

  ends : (x : ℕ) (ys : List ℕ) → From p x ys l → (j : ℕ) × (l ≡ at j)
  ends x [] h = (x, h)
  ends x (y ∷ ys) h = ends y ys h.1

  pub chain_spans : (x : ℕ) (ys : List ℕ) → Chain p (x ∷ ys) l → (j : ℕ) × (l ≡ at j) × (x + length ys * p ≤ j)
  chain_spans x ys h = let e = ends x ys h in (e.0, e.1, span x ys h e.0 e.1)

  from_rises : (x : ℕ) (ys : List ℕ) → From p x ys l → Rising p x ys
  from_rises x [] h = tt
  from_rises x (y ∷ ys) h = (h.0, from_rises y ys h.1)

  pub chain_spaced : (xs : List ℕ) → Chain p xs l → spaced p xs ≡ true
  chain_spaced [] h = refl
  chain_spaced (x ∷ xs) h = rising_spaced p x xs (from_rises x xs h)

  newest_ends : (x : ℕ) (ys : List ℕ) → From p x ys l → l ≡ at (newest_of (x ∷ ys))
  newest_ends x [] h = let e : max x 0 ≡ x = omega arith in rw e h
  newest_ends x (y ∷ ys) h =
      let rest = newest_ends y ys h.1 in
      let e : max x (newest_of (y ∷ ys)) ≡ newest_of (y ∷ ys) = omega (arith, h.0, span y ys h.1 (newest_of (y ∷ ys)) rest) in
      rw e rest

  pub chain_ends : (xs : List ℕ) → Chain p xs l → ends_at xs l ≡ true
  chain_ends [] h = refl
  chain_ends (x ∷ xs) h = rw (newest_ends x xs h) (eq-eqb (newest_of (x ∷ xs)) (newest_of (x ∷ xs)) refl)

-- ---- a row's instants in a list of frames
pub taken_append : (k : ℕ) (fs gs : List Frame) → taken_in k (fs ++ gs) ≡ taken_in k fs ++ taken_in k gs
taken_append k [] gs = refl
taken_append k (f ∷ fs) gs = go (eqb f.source k) (taken_append k fs gs)
  where
    go : (b : Bool) → taken_in k (fs ++ gs) ≡ taken_in k fs ++ taken_in k gs → cond b (f.taken ∷ taken_in k (fs ++ gs)) (taken_in k (fs ++ gs)) ≡ cond b (f.taken ∷ taken_in k fs) (taken_in k fs) ++ taken_in k gs
    go true e = ap (λ (l : List ℕ). f.taken ∷ l) e
    go false e = e

pub taken_none : (k : ℕ) (fs : List Frame) → All (λ f. f.source ≡ k → ⊥) fs → taken_in k fs ≡ []
taken_none k [] p = refl
taken_none k (f ∷ fs) p = rw (ne_eqb f.source k p.0) (taken_none k fs p.1)

pub taken_each : (P : ℕ → Type 0) (k : ℕ) (fs : List Frame) → All (λ f. f.source ≡ k → P f.taken) fs → EachInstant P (taken_in k fs)
taken_each P k [] p = tt
taken_each P k (f ∷ fs) p = go (eqb f.source k) refl (taken_each P k fs p.1)
  where
    go : (b : Bool) → eqb f.source k ≡ b → EachInstant P (taken_in k fs) → EachInstant P (cond b (f.taken ∷ taken_in k fs) (taken_in k fs))
    go true e rest = (p.0 (eqb-true f.source k e), rest)
    go false e rest = rest
