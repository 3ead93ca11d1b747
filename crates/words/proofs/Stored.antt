-- Words stored one behind the other.
use Prim.Native.Nat.{ℕ, suc, ◌+◌, ◌*◌, ◌≤◌, ◌<◌}
use mathlib.Core.List.{List, [], ◌∷◌, ◌++◌, append_assoc}
use mathlib.Core.Path.{◌≡◌, refl, sym, ◌∙◌, ap}
use native.Mathlib.Numerals.{add-one}
use native.Mathlib.Nat.{add-zero, zero-add, add-suc, suc-add, mul-add}
use native.Mathlib.Omega.{arith}
use lib.ListN.{length, get_or, take, drop, length-append}
use lib.Seq.{sets, sets-eq, length-sets, take-suc, length-take-le}
use Rattle.words.specs.Words.{flat, word_bytes, stored, put}
use Rattle.words.proofs.Fitting.{put_fits}

pub flat_append : {A : Type 0} (f : A → List ℕ) (xs ys : List A) → flat f (xs ++ ys) ≡ flat f xs ++ flat f ys
unfolding flat
flat_append f [] ys = refl
flat_append f (x ∷ xs) ys = rw (flat_append f xs ys) (sym (append_assoc (f x) (flat f xs) (flat f ys)))

-- things of the same number of words
pub flat_length : {A : Type 0} (f : A → List ℕ) (size : ℕ) → ((x : A) → length (f x) ≡ size) → (xs : List A) → length (flat f xs) ≡ size * length xs
unfolding flat
flat_length f size h [] = omega arith
flat_length f size h (x ∷ xs) = rw (length-append (f x) (flat f xs), h x, flat_length f size h xs) (omega arith)

pub word_length : (w : ℕ) → length (word_bytes w) ≡ 8
unfolding word_bytes
word_length w = refl

pub bytes_length : (ws : List ℕ) → length (flat word_bytes ws) ≡ 8 * length ws
bytes_length ws = flat_length word_bytes 8 word_length ws

pub sets_append : (a b l : List ℕ) (i : ℕ) → sets (sets l i a) (i + length a) b ≡ sets l i (a ++ b)
sets_append [] b l i = rw (add-zero i) refl
sets_append (x ∷ a) b l i = rw (add-suc i (length a), ← suc-add i (length a)) (sets_append a b _ (suc i))

pub stored_length : (s : List ℕ) (k : ℕ) (ws : List ℕ) → length (stored s k ws) ≡ length s
unfolding stored
stored_length s k ws = length-sets s (8 * k) (flat word_bytes ws)

pub stored_nothing : (s : List ℕ) (k : ℕ) → stored s k [] ≡ s
unfolding stored flat
stored_nothing s k = refl

-- words, and more behind them
pub stored_append : (s : List ℕ) (k : ℕ) (a b : List ℕ) → stored (stored s k a) (k + length a) b ≡ stored s k (a ++ b)
unfolding stored
stored_append s k a b =
    rw (flat_append word_bytes a b, mul-add 8 k (length a), ← bytes_length a) (sets_append (flat word_bytes a) (flat word_bytes b) s (8 * k))

pub stored_next : (s : List ℕ) (k : ℕ) (a b : List ℕ) {t : List ℕ} {j : ℕ} → t ≡ stored s k a → j ≡ k + length a → stored t j b ≡ stored s k (a ++ b)
stored_next s k a b et ej = rw (et, ej) (stored_append s k a b)

-- from the front on
pub stored_front : (s ws : List ℕ) → 8 * length ws ≤ length s → stored s 0 ws ≡ flat word_bytes ws ++ drop (8 * length ws) s
unfolding stored
stored_front s ws h =
    let n : length (flat word_bytes ws) ≡ 8 * length ws = bytes_length ws in
    sets-eq (flat word_bytes ws) s 0 (omega arith) ∙ rw (zero-add (length (flat word_bytes ws)), n) refl

pub more : (s : List ℕ) (k : ℕ) (a b : List ℕ) {l t : List ℕ} {j : ℕ} → l ≡ stored s k a → j ≡ k + length a → t ≡ stored l j b → t ≡ stored s k (a ++ b)
more s k a b el ej et = et ∙ stored_next s k a b el ej

-- the word of number i, put behind those before it
pub put_next : (s : List ℕ) (k i : ℕ) (ws : List ℕ) {l t : List ℕ} → 8 * (k + length ws) ≤ length s → i < length ws → l ≡ stored s k (take i ws) → t ≡ put l (k + i) (get_or ws i 0) → t ≡ stored s k (take (i + 1) ws)
put_next s k i ws {l} room h e g =
    let same : length l ≡ length s = ap length e ∙ stored_length s k (take i ws) in
    let n : length (take i ws) ≡ i = length-take-le i ws (omega arith) in
    let f = put_fits l (k + i) (get_or ws i 0) (omega (arith, same)) g in
    rw (add-one, take-suc ws i 0 h) (more s k (take i ws) (get_or ws i 0 ∷ []) e (rw n refl) f)

-- words stored one by one
module _ (s : List ℕ) (k : ℕ) where
  pub two : (a b : ℕ) {l t : List ℕ} → l ≡ stored s k (a ∷ []) → t ≡ stored l (k + 1) (b ∷ []) → t ≡ stored s k (a ∷ b ∷ [])
  two a b e f = more s k (a ∷ []) (b ∷ []) e refl f

  pub three : (a b c : ℕ) {l t u : List ℕ} → l ≡ stored s k (a ∷ []) → t ≡ stored l (k + 1) (b ∷ []) → u ≡ stored t (k + 2) (c ∷ []) → u ≡ stored s k (a ∷ b ∷ c ∷ [])
  three a b c e f g = more s k (a ∷ b ∷ []) (c ∷ []) (two a b e f) refl g

  pub four : (a b c d : ℕ) {l t u v : List ℕ} → l ≡ stored s k (a ∷ []) → t ≡ stored l (k + 1) (b ∷ []) → u ≡ stored t (k + 2) (c ∷ []) → v ≡ stored u (k + 3) (d ∷ []) → v ≡ stored s k (a ∷ b ∷ c ∷ d ∷ [])
  four a b c d e f g h = more s k (a ∷ b ∷ c ∷ []) (d ∷ []) (three a b c e f g) refl h
