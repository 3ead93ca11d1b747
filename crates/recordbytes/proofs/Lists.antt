-- What holds of every element of a list, and tests of n things.
use Prim.Native.Nat.{ℕ, zero, suc, ◌+◌, ◌*◌, ◌<◌}
use mathlib.Core.Bool.{Bool, true}
use mathlib.Core.List.{List, [], ◌∷◌, ◌++◌, map}
use mathlib.Core.Path.{◌≡◌, refl, ◌∙◌, ap}
use native.Mathlib.Omega.{arith}
use lib.ListN.{length, get_or, take, replicate}
use Rattle.table.proofs.Laws.{and-true}
use Rattle.machine.specs.Record.{all_true}
use Rattle.machine.proofs.FromSound.{Each}
use Rattle.words.specs.Words.{Every, gathered}
use Rattle.words.proofs.Laws.{Held, HeldEach}
use Rattle.rowbytes.proofs.Laws.{both}
use Rattle.recordbytes.specs.Record.{each}

module _ {X : Type 0} (P : X → Type 0) where
  pub every_append : (a b : List X) → Every P a → Every P b → Every P (a ++ b)
  every_append [] b f g = g
  every_append (x ∷ a) b f g = (f.0, every_append a b f.1 g)

  pub every_take : (n : ℕ) (xs : List X) → Every P xs → Every P (take n xs)
  every_take zero xs f = tt
  every_take (suc n) [] f = tt
  every_take (suc n) (x ∷ xs) f = (f.0, every_take n xs f.1)

  pub every_same : (n : ℕ) (x : X) → P x → Every P (replicate n x)
  every_same zero x h = tt
  every_same (suc n) x h = (h, every_same n x h)

  pub every_map : {Y : Type 0} (f : Y → X) (Q : Y → Type 0) → ((y : Y) → Q y → P (f y)) → (ys : List Y) → Every Q ys → Every P (map f ys)
  every_map f Q g [] h = tt
  every_map f Q g (y ∷ ys) h = (g y h.0, every_map f Q g ys h.1)

-- tests that all hold
pub true_each : (bs : List Bool) → Each bs → all_true bs ≡ true
true_each [] h = refl
true_each (b ∷ bs) h = rw h.0 (true_each bs h.1)

-- the thing of number i
pub gathered_at : {X : Type 0} (f : ℕ → X) (size k n i : ℕ) (d : X) → i < n → get_or (gathered f size k n) i d ≡ f (k + size * i)
unfolding gathered
gathered_at f size k zero i d h = absurd (omega arith)
gathered_at f size k (suc n) zero d h = let z : k + size * 0 ≡ k = omega arith in rw z refl
gathered_at f size k (suc n) (suc i) d h = let z : k + size + size * i ≡ k + size * suc i = omega arith in gathered_at f size (k + size) n i d (omega arith) ∙ ap f z

module _ {X : Type 0} (f : X → List ℕ) (size : ℕ) (s : List ℕ) (ok : ℕ → Bool) where
  -- things that are held pass
  pub held_each : (P : X → Type 0) → ((x : X) (k : ℕ) → P x → Held s k (f x) → ok k ≡ true) → (k : ℕ) (xs : List X) → Every P xs → HeldEach f size s k xs → each ok size k (length xs) ≡ true
  unfolding each
  held_each P fits k [] p h = refl
  held_each P fits k (x ∷ xs) p h = both (fits x k p.0 h.0) (held_each P fits (k + size) xs p.1 h.1)

  -- things that pass are held
  pub each_held : (at : ℕ → X) → ((k : ℕ) → ok k ≡ true → Held s k (f (at k))) → (k n : ℕ) → each ok size k n ≡ true → HeldEach f size s k (gathered at size k n)
  unfolding each gathered
  each_held at held k zero e = tt
  each_held at held k (suc n) e = let p = and-true (ok k) (each ok size (k + size) n) e in (held k p.0, each_held at held (k + size) n p.1)
