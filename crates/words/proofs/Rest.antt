-- Bytes that have the words of others from a place on: what stands there is stored again without a change.
use Prim.Native.Nat.{ℕ, zero, suc, ◌+◌, ◌*◌, ◌/◌, ◌%◌, ◌≤◌, ◌<◌}
use mathlib.Core.List.{List, [], ◌∷◌, ◌++◌}
use mathlib.Core.Path.{◌≡◌, refl, ◌∙◌, ap}
use native.Mathlib.Omega.{arith}
use lib.ListN.{length, get_or, set}
use lib.Seq.{sets}
use Rattle.words.specs.Words.{Bytes, flat, half_bytes, word_bytes, word_at, stored, spread}
use Rattle.words.proofs.Stored.{stored_length}
use Rattle.words.proofs.Held.{Held, held_same, stored_behind}
use Rattle.words.proofs.Spread.{HeldEach, each_same, behind}

pub record Rest (n : ℕ) (s t : List ℕ) : Type 0 where
  pub size : length t ≡ length s
  pub bytes : Bytes t
  pub same : (j : ℕ) → n ≤ j → word_at t j ≡ word_at s j

-- ---- bytes stay bytes
digit : (v : ℕ) → v % 256 < 256
digit v = omega arith

every_append : (xs ys : List ℕ) → Bytes xs → Bytes ys → Bytes (xs ++ ys)
every_append [] ys f g = g
every_append (x ∷ xs) ys f g = (f.0, every_append xs ys f.1 g)

half_bytes_lem : (v : ℕ) → Bytes (half_bytes v)
half_bytes_lem v = (digit v, (digit (v / 256), (digit (v / 65536), (digit (v / 16777216), tt))))

words_bytes : (ws : List ℕ) → Bytes (flat word_bytes ws)
unfolding flat word_bytes
words_bytes [] = tt
words_bytes (w ∷ ws) = every_append (half_bytes (w % 4294967296) ++ half_bytes (w / 4294967296)) (flat word_bytes ws) (every_append (half_bytes (w % 4294967296)) (half_bytes (w / 4294967296)) (half_bytes_lem (w % 4294967296)) (half_bytes_lem (w / 4294967296))) (words_bytes ws)

bytes_set : (s : List ℕ) (i v : ℕ) → Bytes s → v < 256 → Bytes (set s i v)
bytes_set [] i v b h = tt
bytes_set (x ∷ s) zero v b h = (h, b.1)
bytes_set (x ∷ s) (suc i) v b h = (b.0, bytes_set s i v b.1 h)

bytes_sets : (vs s : List ℕ) (i : ℕ) → Bytes s → Bytes vs → Bytes (sets s i vs)
bytes_sets [] s i b f = b
bytes_sets (v ∷ vs) s i b f = bytes_sets vs (set s i v) (suc i) (bytes_set s i v b f.0) f.1

bytes_stored : (s : List ℕ) (k : ℕ) (ws : List ℕ) → Bytes s → Bytes (stored s k ws)
unfolding stored
bytes_stored s k ws b = bytes_sets (flat word_bytes ws) s (8 * k) b (words_bytes ws)

-- what each of them is tells that they are bytes
pub bytes_each : (s : List ℕ) → ((i : ℕ) → get_or s i 0 < 256) → Bytes s
bytes_each [] f = tt
bytes_each (x ∷ s) f = (f 0, bytes_each s (λ i. f (suc i)))

-- ---- words behind what is stored
word_behind : (s : List ℕ) (k : ℕ) (ws : List ℕ) (j : ℕ) → k + length ws ≤ j → word_at (stored s k ws) j ≡ word_at s j
unfolding word_at
word_behind s k ws j h =
    let b = stored_behind s k ws in
    rw (
      stored_length s k ws,
      b (8 * j) (omega arith),
      b (8 * j + 1) (omega arith),
      b (8 * j + 2) (omega arith),
      b (8 * j + 3) (omega arith),
      b (8 * j + 4) (omega arith),
      b (8 * j + 4 + 1) (omega arith),
      b (8 * j + 4 + 2) (omega arith),
      b (8 * j + 4 + 3) (omega arith),
    )
    refl

pub rest_whole : (s : List ℕ) → Bytes s → Rest 0 s s
rest_whole s b = record { size = refl; bytes = b; same = λ j h. refl }

module _ {n : ℕ} {s t : List ℕ} (r : Rest n s t) where
  pub rest_later : (m : ℕ) → n ≤ m → Rest m s t
  rest_later m h = record { size = r.size; bytes = r.bytes; same = λ j i. r.same j (omega arith) }

  pub rest_stored : (k : ℕ) (ws : List ℕ) (m : ℕ) → n ≤ m → k + length ws ≤ m → Rest m s (stored t k ws)
  rest_stored k ws m h l =
      record { size = stored_length t k ws ∙ r.size; bytes = bytes_stored t k ws r.bytes; same = λ j i. word_behind t k ws j (omega arith) ∙ r.same j (omega arith) }

  pub held_rest : (k : ℕ) (ws : List ℕ) → n ≤ k → Held s k ws → Held t k ws
  held_rest k [] h f = tt
  held_rest k (w ∷ ws) h f = (r.same k h ∙ f.0, held_rest (k + 1) ws (omega arith) f.1)

module _ {X : Type 0} (f : X → List ℕ) (size : ℕ) where
  pub each_rest : {n : ℕ} {s t : List ℕ} → Rest n s t → (k : ℕ) (xs : List X) → n ≤ k → HeldEach f size s k xs → HeldEach f size t k xs
  each_rest r k [] h e = tt
  each_rest r k (x ∷ xs) h e = (held_rest r k (f x) h e.0, each_rest r (k + size) xs (omega arith) e.1)

  module _ (wide : (x : X) → length (f x) ≤ size) where
    pub rest_spread : {n : ℕ} {s t : List ℕ} → Rest n s t → (k : ℕ) (xs : List X) (m : ℕ) → n ≤ m → k + size * length xs ≤ m → Rest m s (spread f size k xs t)
    unfolding spread
    rest_spread {n = n} r k [] m h l = rest_later r m h
    rest_spread {n = n} r k (x ∷ xs) m h l = rest_spread {n = m} (rest_stored r k (f x) m h (omega (arith, wide x))) (k + size) xs m (omega arith) (omega arith)

    -- one more thing behind those that stand, or another in the place of one of them
    module _ (s : List ℕ) (b : Bytes s) where
      pub spread_more : (k : ℕ) (xs : List X) (x : X) → 8 * (k + size * length xs) ≤ length s → HeldEach f size s k xs → spread f size k (xs ++ x ∷ []) s ≡ stored s (k + size * length xs) (f x)
      spread_more k xs x room e = behind f size k xs x s ∙ rw (each_same f size wide s b k xs room e) refl

      pub spread_set : (k : ℕ) (xs : List X) (i : ℕ) (x : X) → i < length xs → 8 * (k + size * length xs) ≤ length s → HeldEach f size s k xs → spread f size k (set xs i x) s ≡ stored s (k + size * i) (f x)
      unfolding spread
      spread_set k [] i x h room e = absurd (omega arith)
      spread_set k (y ∷ xs) zero x h room e =
          let t = stored s k (f x) in
          let r : Rest (k + size) s t = rest_stored (rest_whole s b) k (f x) (k + size) (omega arith) (omega (arith, wide x)) in
          let z : k + size * 0 ≡ k = omega arith in
          rw z (each_same f size wide t r.bytes (k + size) xs (omega (arith, r.size)) (each_rest r (k + size) xs (omega arith) e.1))
      spread_set k (y ∷ xs) (suc i) x h room e =
          let z : k + size + size * i ≡ k + size * suc i = omega arith in
          ap (λ (t : List ℕ). spread f size (k + size) (set xs i x) t) (held_same s b k (f y) (omega (arith, wide y)) e.0) ∙ spread_set (k + size) xs i x (omega arith) (omega arith) e.1 ∙ rw z refl
