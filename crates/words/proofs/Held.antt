-- Words that stand in bytes from a place on: what was stored there is read there, and storing it again changes nothing.
use Prim.Native.Nat.{ℕ, zero, suc, ◌+◌, ◌-◌, ◌*◌, ◌/◌, ◌%◌, ◌≤◌, ◌<◌}
use mathlib.Core.Bool.{Bool, true, false, cond}
use mathlib.Core.List.{List, [], ◌∷◌, ◌++◌, append_assoc, append-nil}
use mathlib.Core.Path.{◌≡◌, refl, sym, ◌∙◌, ap}
use native.Mathlib.Nat.{add-zero, add_assoc}
use native.Mathlib.Omega.{arith}
use lib.Dec.{leb}
use lib.ListN.{length, get_or, take, drop, length-append, length-take, length-drop, drop_of_length-le, set}
use lib.Seq.{get_or-drop, drop_at, drop-drop, sets, sets-eq, get_or-set_other, set-get_or, length-sets}
use Rattle.words.specs.Words.{Every, Bytes, Word, flat, half_bytes, word_bytes, half_at, word_at, stored}
use Rattle.words.proofs.Fitting.{word_inside}
use Rattle.words.proofs.Stored.{word_length, bytes_length, sets_append, stored_nothing, stored_append, stored_front}

abbrev pub Held : List ℕ → ℕ → List ℕ → Type 0
Held s k [] = Unit {0}
Held s k (w ∷ ws) = (word_at s k ≡ w) × Held s (k + 1) ws

-- ---- a word from its bytes
half_drop : (s : List ℕ) (at k : ℕ) → half_at s (at + k) ≡ half_at (drop at s) k
half_drop s at k = rw (get_or-drop at s k 0, get_or-drop at s (k + 1) 0, get_or-drop at s (k + 2) 0, get_or-drop at s (k + 3) 0, ← add_assoc at k 1, ← add_assoc at k 2, ← add_assoc at k 3) refl

within : (q : ℕ) → q < 256 → q % 256 ≡ q
within q h = omega arith

digits : (v : ℕ) → v % 256 + 256 * (v / 256 % 256) + 65536 * (v / 65536 % 256) + 16777216 * (v / 16777216) ≡ v
digits v = omega arith

half_back : (v : ℕ) (rest : List ℕ) → v < 4294967296 → half_at (half_bytes v ++ rest) 0 ≡ v
half_back v rest h =
    let top : v / 16777216 % 256 ≡ v / 16777216 = within (v / 16777216) (omega arith) in
    rw top (digits v)

word_back : (w : ℕ) (rest : List ℕ) → Word w → half_at (word_bytes w ++ rest) 0 + 4294967296 * half_at (word_bytes w ++ rest) 4 ≡ w
unfolding word_bytes
word_back w rest h =
    let low : half_at (half_bytes (w % 4294967296) ++ (half_bytes (w / 4294967296) ++ rest)) 0 ≡ w % 4294967296 = half_back (w % 4294967296) (half_bytes (w / 4294967296) ++ rest) (omega arith) in
    let high : half_at (half_bytes (w / 4294967296) ++ rest) 0 ≡ w / 4294967296 = half_back (w / 4294967296) rest (omega arith) in
    rw (low, high) (omega arith)

word_at_lem : (s : List ℕ) (k w : ℕ) (rest : List ℕ) → Word w → 8 * (k + 1) ≤ length s → drop (8 * k) s ≡ word_bytes w ++ rest → word_at s k ≡ w
word_at_lem s k w rest h room e =
    let a : half_at s (8 * k) ≡ half_at (word_bytes w ++ rest) 0 = (rw (add-zero (8 * k)) at (half_drop s (8 * k) 0)) ∙ ap (λ l. half_at l 0) e in
    let b : half_at s (8 * k + 4) ≡ half_at (word_bytes w ++ rest) 4 = half_drop s (8 * k) 4 ∙ ap (λ l. half_at l 4) e in
    word_inside s k room ∙ rw (a, b) (word_back w rest h)

-- words that stand one behind the other
pub held_from : (s ws after : List ℕ) (k : ℕ) → drop (8 * k) s ≡ flat word_bytes ws ++ after → Every Word ws → Held s k ws
unfolding flat
held_from s [] after k e f = tt
held_from s (w ∷ ws) after k e f =
    let rest = flat word_bytes ws ++ after in
    let here : drop (8 * k) s ≡ word_bytes w ++ rest = e ∙ append_assoc (word_bytes w) (flat word_bytes ws) after in
    let n : length s - 8 * k ≡ 8 + length rest = sym (length-drop (8 * k) s) ∙ ap length here ∙ length-append (word_bytes w) rest ∙ rw (word_length w) refl in
    let q : 8 * k + 8 ≡ 8 * (k + 1) = omega arith in
    let next : drop (8 * (k + 1)) s ≡ rest = rw (← q, ← drop-drop 8 (8 * k) s, here) (drop_at (word_bytes w) rest 8 (word_length w)) in
    (word_at_lem s k w rest f.0 (omega arith) here, held_from s ws after (k + 1) next f.1)

-- bytes that are words and nothing else
pub held_whole : (ws : List ℕ) → Every Word ws → Held (flat word_bytes ws) 0 ws
held_whole ws f = held_from (flat word_bytes ws) ws [] 0 (sym (append-nil (flat word_bytes ws))) f

-- what was stored is held
pub held_stored : (s : List ℕ) (k : ℕ) (ws : List ℕ) → Every Word ws → 8 * (k + length ws) ≤ length s → Held (stored s k ws) k ws
unfolding stored
held_stored s k ws f room =
    let bytes = flat word_bytes ws in
    let after = drop (8 * k + length bytes) s in
    let n : length bytes ≡ 8 * length ws = bytes_length ws in
    let e : sets s (8 * k) bytes ≡ take (8 * k) s ++ (bytes ++ after) = sets-eq bytes s (8 * k) (omega arith) ∙ append_assoc (take (8 * k) s) bytes after in
    held_from (sets s (8 * k) bytes) ws after k (rw e (drop_at (take (8 * k) s) (bytes ++ after) (8 * k) (rw length-take (omega arith)))) f

-- ---- words before a place, whatever is stored from it on
sets_before : (vs l : List ℕ) (i j : ℕ) → j < i → get_or (sets l i vs) j 0 ≡ get_or l j 0
sets_before [] l i j h = refl
sets_before (v ∷ vs) l i j h = sets_before vs (set l i v) (suc i) j (omega arith) ∙ get_or-set_other l i j v 0 (λ e. omega arith)

pub word_before : (s : List ℕ) (k : ℕ) (ws : List ℕ) (j : ℕ) → j < k → word_at (stored s k ws) j ≡ word_at s j
unfolding stored word_at
word_before s k ws j h =
    let b : (i : ℕ) → i < 8 * k → get_or (sets s (8 * k) (flat word_bytes ws)) i 0 ≡ get_or s i 0 = sets_before (flat word_bytes ws) s (8 * k) in
    rw (
      length-sets s (8 * k) (flat word_bytes ws),
      b (8 * j) (omega arith),
      b (8 * j + 1) (omega arith),
      b (8 * j + 2) (omega arith),
      b (8 * j + 3) (omega arith),
      b (8 * j + 4) (omega arith),
      b (8 * j + 4 + 1) (omega arith),
      b (8 * j + 4 + 2) (omega arith),
      b (8 * j + 4 + 3) (omega arith),
    )
    refl

-- ---- words that are held, stored again
same_sets : (vs l : List ℕ) (i : ℕ) → ((j : ℕ) → j < length vs → get_or l (i + j) 0 ≡ get_or vs j 0) → sets l i vs ≡ l
same_sets [] l i h = refl
same_sets (v ∷ vs) l i h =
    let e : get_or l i 0 ≡ v = rw (add-zero i) at (h 0 (omega arith)) in
    let here : set l i v ≡ l = rw (← e) (set-get_or l i 0) in
    rw here (same_sets vs l (suc i) (λ j g. let q : suc i + j ≡ i + suc j = omega arith in rw q (h (suc j) (omega arith))))

byte_small : (s : List ℕ) (i : ℕ) → Bytes s → get_or s i 0 < 256
byte_small [] i b = omega arith
byte_small (x ∷ s) zero b = b.0
byte_small (x ∷ s) (suc i) b = byte_small s i b.1

module _ (s : List ℕ) (b : Bytes s) where
  half_small : (at : ℕ) → half_at s at < 4294967296
  half_small at = omega (arith, byte_small s at b, byte_small s (at + 1) b, byte_small s (at + 2) b, byte_small s (at + 3) b)

  pub word_small : (k : ℕ) → Word (word_at s k)
  unfolding word_at
  word_small k = go (leb (8 * (k + 1)) (length s))
    where
      go : (c : Bool) → Word (cond c (half_at s (8 * k) + 4294967296 * half_at s (8 * k + 4)) 0)
      go true = omega (arith, half_small (8 * k), half_small (8 * k + 4))
      go false = omega arith

  half_bytes_lem : (at v j : ℕ) → v ≡ half_at s at → j < 4 → get_or s (at + j) 0 ≡ get_or (half_bytes v) j 0
  half_bytes_lem at v zero e h = rw (add-zero at) (omega (arith, byte_small s at b))
  half_bytes_lem at v (suc zero) e h = omega (arith, byte_small s at b, byte_small s (at + 1) b)
  half_bytes_lem at v (suc (suc zero)) e h = omega (arith, byte_small s at b, byte_small s (at + 1) b, byte_small s (at + 2) b)
  half_bytes_lem at v (suc (suc (suc zero))) e h = omega (arith, byte_small s at b, byte_small s (at + 1) b, byte_small s (at + 2) b, byte_small s (at + 3) b)
  half_bytes_lem at v (suc (suc (suc (suc j)))) e h = absurd (omega arith)

  same_half : (at v : ℕ) → v ≡ half_at s at → sets s at (half_bytes v) ≡ s
  same_half at v e = same_sets (half_bytes v) s at (λ j h. half_bytes_lem at v j e h)

  same_word : (k w : ℕ) → 8 * (k + 1) ≤ length s → word_at s k ≡ w → stored s k (w ∷ []) ≡ s
  unfolding stored flat word_bytes
  same_word k w room e =
      let both : w ≡ half_at s (8 * k) + 4294967296 * half_at s (8 * k + 4) = sym e ∙ word_inside s k room in
      let low : w % 4294967296 ≡ half_at s (8 * k) = omega (arith, half_small (8 * k)) in
      let high : w / 4294967296 ≡ half_at s (8 * k + 4) = omega (arith, half_small (8 * k)) in
      sym (sets_append (half_bytes (w % 4294967296)) (half_bytes (w / 4294967296)) s (8 * k)) ∙ rw (same_half (8 * k) (w % 4294967296) low) (same_half (8 * k + 4) (w / 4294967296) high)

  pub held_same : (k : ℕ) (ws : List ℕ) → 8 * (k + length ws) ≤ length s → Held s k ws → stored s k ws ≡ s
  held_same k [] room h = stored_nothing s k
  held_same k (w ∷ ws) room h =
      sym (stored_append s k (w ∷ []) ws) ∙ rw (same_word k w (omega arith) h.0) (held_same (k + 1) ws (omega arith) h.1)

  -- as many bytes as the words that they hold have are those words' bytes
  pub whole_held : (ws : List ℕ) → length s ≡ 8 * length ws → Held s 0 ws → flat word_bytes ws ≡ s
  whole_held ws n h =
      let none : drop (8 * length ws) s ≡ [] = drop_of_length-le s {i = 8 * length ws} (omega arith) in
      let front : stored s 0 ws ≡ flat word_bytes ws ++ [] = stored_front s ws (omega arith) ∙ rw none refl in
      sym (append-nil (flat word_bytes ws)) ∙ sym front ∙ held_same 0 ws (omega arith) h

-- ---- bytes behind what is stored
sets_behind : (vs l : List ℕ) (i j : ℕ) → i + length vs ≤ j → get_or (sets l i vs) j 0 ≡ get_or l j 0
sets_behind [] l i j h = refl
sets_behind (v ∷ vs) l i j h = sets_behind vs (set l i v) (suc i) j (omega arith) ∙ get_or-set_other l i j v 0 (λ e. omega arith)

pub stored_behind : (s : List ℕ) (k : ℕ) (ws : List ℕ) (i : ℕ) → 8 * (k + length ws) ≤ i → get_or (stored s k ws) i 0 ≡ get_or s i 0
unfolding stored
stored_behind s k ws i h = sets_behind (flat word_bytes ws) s (8 * k) i (omega (arith, bytes_length ws))
