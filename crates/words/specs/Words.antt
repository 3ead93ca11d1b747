-- Words of 64 bits in a list of bytes, little-endian.
use Rattle.std.specs.Prelude.{ℕ, zero, suc, ◌+◌, ◌*◌, ◌/◌, ◌%◌, ◌<◌, ◌^◌, cond, List, [], ◌∷◌, ◌++◌, leb, length, get_or}
use Rattle.std.proofs.lemmas.List.Edits.{sets}

-- What holds of every element.
abbrev pub Every : {X : Type 0} → (X → Type 0) → List X → Type 0
Every P [] = Unit {0}
Every P (x ∷ xs) = P x × Every P xs

-- A list of bytes: each of its numbers is below 256. A word: a number of 64 bits.
abbrev pub Bytes : List ℕ → Type 0
Bytes s = Every (λ b. b < 256) s

abbrev pub Word : ℕ → Type 0
Word w = w < 2 ^ 64

-- What f gives for each element, one behind the other.
unfoldable pub flat : {A : Type 0} → (A → List ℕ) → List A → List ℕ
flat f [] = []
flat f (x ∷ xs) = f x ++ flat f xs

-- The 8 bytes of a word, the lowest first: two halves of 4 bytes.
abbrev pub half_bytes : ℕ → List ℕ
half_bytes v = v % 256 ∷ v / 256 % 256 ∷ v / 65536 % 256 ∷ v / 16777216 % 256 ∷ []

unfoldable pub word_bytes : ℕ → List ℕ
word_bytes w = half_bytes (w % 4294967296) ++ half_bytes (w / 4294967296)

-- What the word of number k says: bytes 8 × k to 8 × k + 7, or 0 where the bytes end before its last one.
abbrev pub half_at : List ℕ → ℕ → ℕ
half_at s at = get_or s at 0 + 256 * get_or s (at + 1) 0 + 65536 * get_or s (at + 2) 0 + 16777216 * get_or s (at + 3) 0

unfoldable pub word_at : List ℕ → ℕ → ℕ
word_at s k = cond (leb (8 * (k + 1)) (length s)) (half_at s (8 * k) + 4294967296 * half_at s (8 * k + 4)) 0

-- Bytes with words stored from the word of number k on.
unfoldable pub stored : List ℕ → ℕ → List ℕ → List ℕ
stored s k ws = sets s (8 * k) (flat word_bytes ws)

-- Things of a list, each in its own words: the thing of number i from the word of number k + size × i on. Bytes with each of them stored, and n of them read.
unfoldable pub spread : {X : Type 0} → (X → List ℕ) → ℕ → ℕ → List X → List ℕ → List ℕ
spread f size k [] s = s
spread f size k (x ∷ xs) s = spread f size (k + size) xs (stored s k (f x))

unfoldable pub gathered : {X : Type 0} → (ℕ → X) → ℕ → ℕ → ℕ → List X
gathered f size k zero = []
gathered f size k (suc n) = f k ∷ gathered f size (k + size) n

-- Bytes with one word put at its place: all its bytes, or none where the bytes end before its last one.
unfoldable pub put : List ℕ → ℕ → ℕ → List ℕ
put s k w = cond (leb (8 * (k + 1)) (length s)) (stored s k (w ∷ [])) s

-- Bytes with words put one behind the other, from the word of number k on: all of them, or none where not all find room.
unfoldable pub put_all : List ℕ → ℕ → List ℕ → List ℕ
put_all s k ws = cond (leb (8 * (k + length ws)) (length s)) (stored s k ws) s
