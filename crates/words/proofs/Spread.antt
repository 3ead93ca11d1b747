-- Things of a list in their own words: stored one after the other, held, read back, and stored again.
use Prim.Native.Nat.{ℕ, zero, suc, ◌+◌, ◌*◌, ◌≤◌, ◌<◌}
use mathlib.Core.List.{List, [], ◌∷◌, ◌++◌}
use mathlib.Core.Path.{◌≡◌, refl, sym, ◌∙◌, ap}
use native.Mathlib.Numerals.{add-one}
use native.Mathlib.Omega.{arith}
use lib.ListN.{length, get_or, take}
use lib.Seq.{take-suc, length-take-le}
use Rattle.words.specs.Words.{Every, Bytes, Word, word_at, stored, spread, gathered}
use Rattle.words.proofs.Stored.{stored_length}
use Rattle.words.proofs.Held.{Held, held_stored, held_same, word_before, stored_behind}

-- Bytes that have the words of others before the word of number n.
pub record Agree (n : ℕ) (s t : List ℕ) : Type 0 where
  pub same : (j : ℕ) → j < n → word_at t j ≡ word_at s j

pub agree_more : {n m : ℕ} {s t u : List ℕ} → n ≤ m → Agree n s t → Agree m t u → Agree n s u
agree_more h f g = record { same = λ j i. g.same j (omega arith) ∙ f.same j i }

pub stored_agrees : (s : List ℕ) (k : ℕ) (ws : List ℕ) → Agree k s (stored s k ws)
stored_agrees s k ws = record { same = λ j h. word_before s k ws j h }

pub held_agrees : (n : ℕ) (s t : List ℕ) (k : ℕ) (ws : List ℕ) → k + length ws ≤ n → Agree n s t → Held s k ws → Held t k ws
held_agrees n s t k [] h g f = tt
held_agrees n s t k (w ∷ ws) h g f = (g.same k (omega arith) ∙ f.0, held_agrees n s t (k + 1) ws (omega arith) g f.1)

module _ {X : Type 0} (f : X → List ℕ) (size : ℕ) where
  pub spread_length : (k : ℕ) (xs : List X) (s : List ℕ) → length (spread f size k xs s) ≡ length s
  unfolding spread
  spread_length k [] s = refl
  spread_length k (x ∷ xs) s = spread_length (k + size) xs (stored s k (f x)) ∙ stored_length s k (f x)

  pub spread_agrees : (k : ℕ) (xs : List X) (s : List ℕ) → Agree k s (spread f size k xs s)
  unfolding spread
  spread_agrees k [] s = record { same = λ j h. refl }
  spread_agrees k (x ∷ xs) s = agree_more (omega arith) (stored_agrees s k (f x)) (spread_agrees (k + size) xs (stored s k (f x)))

  pub spread_none : (k : ℕ) (s : List ℕ) → s ≡ spread f size k [] s
  unfolding spread
  spread_none k s = refl

  -- one more thing behind the others
  pub behind : (k : ℕ) (xs : List X) (x : X) (s : List ℕ) → spread f size k (xs ++ x ∷ []) s ≡ stored (spread f size k xs s) (k + size * length xs) (f x)
  unfolding spread
  behind k [] x s = let z : k + size * 0 ≡ k = omega arith in rw z refl
  behind k (y ∷ xs) x s =
      let z : k + size + size * length xs ≡ k + size * suc (length xs) = omega arith in
      behind (k + size) xs x (stored s k (f y)) ∙ rw z refl

  -- a turn of a loop that stores the things of an array
  pub spread_next : (k : ℕ) (xs : List X) (s : List ℕ) (i : ℕ) (d : X) {t u : List ℕ} → i < length xs → t ≡ spread f size k (take i xs) s → u ≡ stored t (k + size * i) (f (get_or xs i d)) → u ≡ spread f size k (take (i + 1) xs) s
  spread_next k xs s i d h e g =
      let n : length (take i xs) ≡ i = length-take-le i xs (omega arith) in
      g ∙ rw (e, add-one, take-suc xs i d h) (sym (rw n at (behind k (take i xs) (get_or xs i d) s)))

  -- the words of each thing stand in its place
  abbrev pub HeldEach : List ℕ → ℕ → List X → Type 0
  HeldEach s k [] = Unit {0}
  HeldEach s k (x ∷ xs) = Held s k (f x) × HeldEach s (k + size) xs

  module _ (wide : (x : X) → length (f x) ≤ size) where
    pub each_agrees : (n : ℕ) (s t : List ℕ) (k : ℕ) (xs : List X) → k + size * length xs ≤ n → Agree n s t → HeldEach s k xs → HeldEach t k xs
    each_agrees n s t k [] h g e = tt
    each_agrees n s t k (x ∷ xs) h g e =
        (held_agrees n s t k (f x) (omega (arith, wide x)) g e.0, each_agrees n s t (k + size) xs (omega arith) g e.1)

    pub spread_held : (P : X → Type 0) → ((x : X) → P x → Every Word (f x)) → (k : ℕ) (xs : List X) (s : List ℕ) → Every P xs → 8 * (k + size * length xs) ≤ length s → HeldEach (spread f size k xs s) k xs
    unfolding spread
    spread_held P words k [] s p room = tt
    spread_held P words k (x ∷ xs) s p room =
        let t = stored s k (f x) in
        let n : length t ≡ length s = stored_length s k (f x) in
        let here : Held t k (f x) = held_stored s k (f x) (words x p.0) (omega (arith, wide x)) in
        (held_agrees (k + size) t (spread f size (k + size) xs t) k (f x) (omega (arith, wide x)) (spread_agrees (k + size) xs t) here, spread_held P words (k + size) xs t p.1 (omega arith))

    pub spread_behind : (k : ℕ) (xs : List X) (s : List ℕ) (i : ℕ) → 8 * (k + size * length xs) ≤ i → get_or (spread f size k xs s) i 0 ≡ get_or s i 0
    unfolding spread
    spread_behind k [] s i h = refl
    spread_behind k (x ∷ xs) s i h = spread_behind (k + size) xs (stored s k (f x)) i (omega arith) ∙ stored_behind s k (f x) i (omega (arith, wide x))

    pub each_same : (s : List ℕ) → Bytes s → (k : ℕ) (xs : List X) → 8 * (k + size * length xs) ≤ length s → HeldEach s k xs → spread f size k xs s ≡ s
    unfolding spread
    each_same s b k [] room h = refl
    each_same s b k (x ∷ xs) room h = rw (held_same s b k (f x) (omega (arith, wide x)) h.0) (each_same s b (k + size) xs (omega arith) h.1)

  -- things read from the words that they are held in
  pub gathered_back : (s : List ℕ) (at : ℕ → X) (P : X → Type 0) → ((x : X) (k : ℕ) → P x → Held s k (f x) → at k ≡ x) → (k : ℕ) (xs : List X) → Every P xs → HeldEach s k xs → gathered at size k (length xs) ≡ xs
  unfolding gathered
  gathered_back s at P back k [] p h = refl
  gathered_back s at P back k (x ∷ xs) p h = rw (back x k p.0 h.0, gathered_back s at P back (k + size) xs p.1 h.1) refl

-- as many things are gathered as are asked for
pub gathered_length : {X : Type 0} (f : ℕ → X) (size k n : ℕ) → length (gathered f size k n) ≡ n
unfolding gathered
gathered_length f size k zero = refl
gathered_length f size k (suc n) = ap suc (gathered_length f size (k + size) n)

pub gathered_every : {X : Type 0} (P : X → Type 0) (f : ℕ → X) (size : ℕ) → ((k : ℕ) → P (f k)) → (k n : ℕ) → Every P (gathered f size k n)
unfolding gathered
gathered_every P f size h k zero = tt
gathered_every P f size h k (suc n) = (h k, gathered_every P f size h (k + size) n)

-- one thing more
gathered_suc : {X : Type 0} (f : ℕ → X) (size k n : ℕ) → gathered f size k (suc n) ≡ gathered f size k n ++ f (k + size * n) ∷ []
unfolding gathered
gathered_suc f size k zero = let z : k + size * 0 ≡ k = omega arith in rw z refl
gathered_suc {X} f size k (suc n) =
    let z : k + size + size * n ≡ k + size * suc n = omega arith in
    ap (λ (xs : List X). f k ∷ xs) (gathered_suc f size (k + size) n ∙ rw z refl)

pub gathered_next : {X : Type 0} (f : ℕ → X) (size k n : ℕ) → gathered f size k (n + 1) ≡ gathered f size k n ++ f (k + size * n) ∷ []
gathered_next f size k n = rw (add-one n) (gathered_suc f size k n)

pub gathered_none : {X : Type 0} (f : ℕ → X) (size k : ℕ) → [] ≡ gathered f size k 0
unfolding gathered
gathered_none f size k = refl
