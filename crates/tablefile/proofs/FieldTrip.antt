-- A field's bytes, there and back, whatever its width.
use Prim.Native.Nat.{ℕ, zero, suc, ◌+◌, ◌*◌, ◌/◌, ◌%◌, ◌≤◌, ◌<◌}
use mathlib.Core.List.{List, [], ◌∷◌, ◌++◌}
use mathlib.Core.Path.{◌≡◌, refl, sym, ◌∙◌, ap}
use native.Mathlib.Nat.{add-zero, add-suc}
use native.Mathlib.Omega.{arith}
use lib.ListN.{length, get_or, drop}
use lib.Seq.{get_or-drop, drop-drop, drop-cons, append_snoc, get_or_at, drop-append_seam}
use Rattle.tablefile.specs.Layout.{value_at, bytes_of}
use Rattle.tablefile.specs.RoundTrip.{Bytes}
use Rattle.tablefile.proofs.Sizes.{bytes_length}

-- how many values the bytes of a field tell apart
abbrev pub below : ℕ → ℕ
below zero = 1
below (suc n) = 256 * below n

-- ---- where the bytes of a value stand, the value is read
pub value_back : (n v : ℕ) (s : List ℕ) (at : ℕ) (rest : List ℕ) → v < below n → drop at s ≡ bytes_of n v ++ rest → value_at n s at ≡ v
unfolding value_at bytes_of
value_back zero v s at rest h e = omega arith
value_back (suc n) v s at rest h e =
    let here : drop at s ≡ bytes_of n (v / 256) ++ (v % 256 ∷ rest) = e ∙ append_snoc (bytes_of n (v / 256)) (v % 256) rest in
    let high : value_at n s at ≡ v / 256 = value_back n (v / 256) s at (v % 256 ∷ rest) (omega arith) here in
    let low : get_or s (at + n) 0 ≡ v % 256 = sym (get_or-drop at s n 0) ∙ ap (λ p. get_or p n 0) here ∙ get_or_at (bytes_of n (v / 256)) (v % 256) rest 0 n (bytes_length n (v / 256)) in
    rw (high, low) (omega arith)

-- ---- where a value is read, its bytes stand
pub byte_below : (s : List ℕ) → Bytes s → (i : ℕ) → get_or s i 0 < 256
byte_below [] b i = omega arith
byte_below (x ∷ s) b zero = b.0
byte_below (x ∷ s) b (suc i) = byte_below s b.1 i

pub bytes_drop : (n : ℕ) (s : List ℕ) → Bytes s → Bytes (drop n s)
bytes_drop zero s b = b
bytes_drop (suc n) [] b = b
bytes_drop (suc n) (x ∷ s) b = bytes_drop n s b.1

pub bytes_at : (n : ℕ) (s : List ℕ) (at : ℕ) → Bytes s → at + n ≤ length s → drop at s ≡ bytes_of n (value_at n s at) ++ drop (at + n) s
unfolding value_at bytes_of
bytes_at zero s at b h = rw (add-zero at) refl
bytes_at (suc n) s at b h =
    let v = value_at n s at in
    let x = get_or s (at + n) 0 in
    let small : x < 256 = byte_below s b (at + n) in
    let high : (256 * v + x) / 256 ≡ v = omega arith in
    let low : (256 * v + x) % 256 ≡ x = omega arith in
    let more : at + n < length s = omega arith in
    rw (high, low, append_snoc (bytes_of n v) x (drop (at + suc n) s), add-suc at n) (bytes_at n s at b (omega arith) ∙ ap (λ p. bytes_of n v ++ p) (drop-cons s (at + n) 0 more))

-- ---- where bytes stand, what follows them stands at the place behind them
pub behind : (s : List ℕ) (at : ℕ) (p rest : List ℕ) → drop at s ≡ p ++ rest → drop (at + length p) s ≡ rest
behind s at p rest e = sym (drop-drop (length p) at s) ∙ ap (drop (length p)) e ∙ drop-append_seam p rest
