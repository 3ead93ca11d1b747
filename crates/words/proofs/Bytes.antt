-- A word's eight bytes together, as the library reads and writes them.
use Rattle.std.proofs.Common.{ℕ, zero, suc, ◌+◌, ◌*◌, ◌/◌, ◌%◌, ◌≤◌, ◌<◌, List, [], ◌∷◌, ◌++◌, ◌≡◌, length, get_or, take, drop, w64, refl, sym, ◌∙◌, ap, arith}
use mathlib.Core.List.{append_assoc, append-nil}
use borrow.Rule.Slice.PartMut.{put_mid}
use Rattle.std.specs.Int.{to_le_bytes, from_le_bytes}
use Rattle.std.specs.Simd.{first_chunks}
use Rattle.std.proofs.lemmas.List.{get_or-take, get_or-drop}
use Rattle.std.proofs.lemmas.List.Edits.{sets, sets-eq}
use lib.Seq.{drop-drop}
use Rattle.words.specs.Words.{flat, word_bytes, word_at, stored}
use Rattle.words.proofs.Fitting.{word_inside}
use Rattle.words.proofs.Stored.{word_length}

-- the bytes of a word, in one or in two halves
bytes_whole : (w : ℕ) → to_le_bytes w64 w ≡ word_bytes w
unfolding word_bytes
bytes_whole w =
    let M : ℕ = 4294967296 in
    let a : w % M % 256 ≡ w % 256 = omega arith in
    let b : w % M / 256 % 256 ≡ w / 256 % 256 = omega arith in
    let c : w % M / 65536 % 256 ≡ w / 65536 % 256 = omega arith in
    let d : w % M / 16777216 % 256 ≡ w / 16777216 % 256 = omega arith in
    let f : w / M / 256 % 256 ≡ w / 1099511627776 % 256 = omega arith in
    let g : w / M / 65536 % 256 ≡ w / 281474976710656 % 256 = omega arith in
    let h : w / M / 16777216 % 256 ≡ w / 72057594037927936 % 256 = omega arith in
    cc

-- the piece of number k of the whole pieces of 8 bytes
piece_at : (n k : ℕ) (s d : List ℕ) → k < n → get_or (first_chunks 8 n s) k d ≡ take 8 (drop (8 * k) s)
piece_at zero k s d h = absurd (omega arith)
piece_at (suc n) zero s d h = refl
piece_at (suc n) (suc k) s d h =
    let at : 8 + 8 * k ≡ 8 * suc k = omega arith in
    piece_at n k (drop 8 s) d (omega arith) ∙ ap (take 8) (drop-drop (8 * k) 8 s ∙ ap (λ (j : ℕ). drop j s) at)

module _ (s : List ℕ) (k : ℕ) where
  byte_in : (i j : ℕ) → i < 8 → j ≡ 8 * k + i → get_or (take 8 (drop (8 * k) s)) i 0 ≡ get_or s j 0
  byte_in i j h e = rw e (get_or-take 8 (drop (8 * k) s) i 0 h ∙ get_or-drop (8 * k) s i 0)

  -- read from the whole pieces of 8 bytes
  pub read_whole : (w : ℕ) {pieces : List (List ℕ)} {bytes : List ℕ} → length pieces ≡ length s / 8 → pieces ≡ first_chunks 8 (length s / 8) s → k < length pieces → bytes ≡ get_or pieces k bytes → w ≡ from_le_bytes w64 bytes → w ≡ word_at s k
  read_whole w {pieces} {bytes} few all inside e h =
      let at : ℕ = 8 * k in
      let here : bytes ≡ take 8 (drop at s) = e ∙ ap (λ (l : List (List ℕ)). get_or l k bytes) all ∙ piece_at (length s / 8) k s bytes (omega arith) in
      let z : w ≡ from_le_bytes w64 (take 8 (drop at s)) = h ∙ ap (from_le_bytes w64) here in
      let b0 = byte_in 0 at (omega arith) (omega arith) in
      let b1 = byte_in 1 (at + 1) (omega arith) (omega arith) in
      let b2 = byte_in 2 (at + 2) (omega arith) (omega arith) in
      let b3 = byte_in 3 (at + 3) (omega arith) (omega arith) in
      let b4 = byte_in 4 (at + 4) (omega arith) (omega arith) in
      let b5 = byte_in 5 (at + 4 + 1) (omega arith) (omega arith) in
      let b6 = byte_in 6 (at + 4 + 2) (omega arith) (omega arith) in
      let b7 = byte_in 7 (at + 4 + 3) (omega arith) (omega arith) in
      let whole = word_inside s k (omega arith) in
      omega arith

  -- written over the part that has the word's bytes
  pub write_whole : (n w : ℕ) {bytes : List ℕ} → 8 * (k + 1) ≤ length s → n ≡ 8 → bytes ≡ to_le_bytes w64 w → put_mid (8 * k) n s bytes ≡ stored s k (w ∷ [])
  unfolding stored flat
  write_whole n w {bytes} room e h =
      let at : ℕ = 8 * k in
      let long : length (word_bytes w) ≡ 8 = word_length w in
      let same : bytes ≡ word_bytes w = h ∙ bytes_whole w in
      let all : sets s at (word_bytes w) ≡ take at s ++ word_bytes w ++ drop (at + length (word_bytes w)) s = sets-eq (word_bytes w) s at (omega arith) in
      let behind : drop n (drop at s) ≡ drop (at + length (word_bytes w)) s = rw (e, long) (drop-drop 8 at s) in
      rw (append-nil (word_bytes w), all, same, behind) (sym (append_assoc (take at s) (word_bytes w) (drop (at + length (word_bytes w)) s)))
