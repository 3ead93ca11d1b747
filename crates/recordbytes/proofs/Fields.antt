-- One credit, frame, instant or wire: its words give it back, pass the test, and are those of what the test lets pass.
use Prim.Native.Nat.{ℕ, ◌+◌, ◌-◌, ◌<◌, ◌^◌}
use mathlib.Core.Bool.{Bool, true, false, cond, ◌&&◌}
use mathlib.Core.List.{List}
use mathlib.Core.Path.{◌≡◌, refl}
use native.Mathlib.Omega.{arith}
use lib.Dec.{leb, eqb}
use lib.IntN.{ℤ, pos, negsuc}
use lib.Signed.{mag}
use borrow.Author.Rules.{rules}
use borrow.Author.Tests.{le-leb, lt-leb, leb-true, leb-false, eqb-true, eqb-false}
use Rattle.table.proofs.Laws.{and-true}
use Rattle.machine.specs.declared.Frame.{Frame}
use Rattle.machine.specs.declared.Wire.{Wire}
use Rattle.machine.specs.declared.Wire.TheVariants.{Free, Sending}
use Rattle.machine.specs.State.{Instant, never, at}
use Rattle.words.specs.Words.{Every, Word, Bytes, word_at}
use Rattle.words.proofs.Laws.{Held, word_small}
use Rattle.rowbytes.specs.Row.{u32_of, fits_u32}
use Rattle.rowbytes.proofs.Laws.{both, bits_back, bits_fits, bits_same, bits_small, second, to_second}
use Rattle.recordbytes.specs.Layout.{frame_width}
use Rattle.recordbytes.specs.Record.{signed_word, frame_words, last_words, wire_words, signed_of, frame_at, instant_at, wire_at, frame_fits, last_fits, wire_fits}
use Rattle.recordbytes.specs.Fits.{FrameFits, InstantFits, WireFits}

-- ---- a credit
pub signed_back : (z : ℤ) {w : ℕ} → w ≡ signed_word z → mag z < 2 ^ 63 → signed_of w ≡ z
signed_back (pos n) e h = rw (e, le-leb n 9223372036854775807 (omega arith)) refl
signed_back (negsuc n) e h =
    let big : 9223372036854775807 < 18446744073709551615 - n = omega arith in
    let back : 18446744073709551615 - (18446744073709551615 - n) ≡ n = omega arith in
    rw (e, lt-leb _ 9223372036854775807 big, back) refl

pub signed_same : (w : ℕ) → Word w → w ≡ signed_word (signed_of w)
signed_same w h = go (leb w 9223372036854775807)
  where
    go : (b : Bool) → w ≡ signed_word (cond b (pos w) (negsuc (18446744073709551615 - w)))
    go true = refl
    go false = omega arith

pub signed_small : (w : ℕ) → Word w → mag (signed_of w) < 2 ^ 63
signed_small w h = go (leb w 9223372036854775807) refl
  where
    go : (b : Bool) → leb w 9223372036854775807 ≡ b → mag (cond b (pos w) (negsuc (18446744073709551615 - w))) < 2 ^ 63
    go true e = omega (arith, leb-true w 9223372036854775807 e)
    go false e = omega (arith, leb-false w 9223372036854775807 e)

pub signed_word_lem : (z : ℤ) → mag z < 2 ^ 63 → Word (signed_word z)
signed_word_lem (pos n) h = omega arith
signed_word_lem (negsuc n) h = omega arith

-- ---- the parts, in bytes s
module _ (s : List ℕ) where
  -- a frame
  pub frame_words_lem : (x : Frame) → FrameFits x → Every Word (frame_words x)
  frame_words_lem x f = (omega (arith, f.source), (omega (arith, f.size), (f.taken, tt)))

  pub frame_back : (x : Frame) (k : ℕ) → FrameFits x → Held s k (frame_words x) → frame_at s k ≡ x
  frame_back x k f h = rw (bits_back 32 h.0 f.source, bits_back 32 h.1.0 f.size, second s k x.taken h.1.1.0) refl

  pub frame_fits_lem : (x : Frame) (k : ℕ) → FrameFits x → Held s k (frame_words x) → frame_fits s k ≡ true
  frame_fits_lem x k f h = both (bits_fits 32 h.0 f.source) (bits_fits 32 h.1.0 f.size)

  pub frame_same : (k : ℕ) → frame_fits s k ≡ true → Held s k (frame_words (frame_at s k))
  frame_same k e =
      let p = and-true (fits_u32 (word_at s k)) (fits_u32 (word_at s (k + 1))) e in
      (bits_same 32 (word_at s k) p.0, (bits_same 32 (word_at s (k + 1)) p.1, (to_second s k _ refl, tt)))

  pub frame_small : Bytes s → (k : ℕ) → FrameFits (frame_at s k)
  frame_small b k = record { source = bits_small 32 (word_at s k); size = bits_small 32 (word_at s (k + 1)); taken = word_small s b (k + 2) }

  -- a last instant
  pub last_words_lem : (i : Instant) → InstantFits i → Every Word (last_words i)
  last_words_lem never f = search rules
  last_words_lem (at k) f = (omega arith, (f, tt))

  pub last_back : (i : Instant) (k : ℕ) → InstantFits i → Held s k (last_words i) → instant_at s k ≡ i
  last_back never k f h = rw h.0 refl
  last_back (at j) k f h = rw (h.0, h.1.0) refl

  pub last_fits_lem : (i : Instant) (k : ℕ) → InstantFits i → Held s k (last_words i) → last_fits s k ≡ true
  last_fits_lem never k f h = rw h.0 refl
  last_fits_lem (at j) k f h = rw h.0 refl

  pub last_same : (k : ℕ) → last_fits s k ≡ true → Held s k (last_words (instant_at s k))
  last_same k e = go (eqb (word_at s k) 1) refl
    where
      go : (b : Bool) → eqb (word_at s k) 1 ≡ b → Held s k (last_words (cond b (at (word_at s (k + 1))) never))
      go true z = (eqb-true (word_at s k) 1 z, (refl, tt))
      go false z = let none : word_at s k ≡ 0 = omega (arith, leb-true (word_at s k) 1 e, eqb-false (word_at s k) 1 z) in search rules

  pub last_small : Bytes s → (k : ℕ) → InstantFits (instant_at s k)
  last_small b k = go (eqb (word_at s k) 1)
    where
      go : (c : Bool) → InstantFits (cond c (at (word_at s (k + 1))) never)
      go true = word_small s b (k + 1)
      go false = tt

  -- the wire
  pub wire_words_lem : (w : Wire) → WireFits w → Every Word (wire_words w)
  wire_words_lem Free f = (omega arith, tt)
  wire_words_lem (Sending x left) f = let g = frame_words_lem x f.0 in (omega arith, (g.0, (g.1.0, (g.1.1.0, (omega (arith, f.1), tt)))))

  -- where the words of a frame on the wire stand
  on_wire_lem : (x : Frame) (left k : ℕ) → Held s k (wire_words (Sending x left)) → Held s (k + 1) (frame_words x) × (word_at s (k + 1 + frame_width) ≡ left)
  on_wire_lem x left k h = let e : k + 1 + 1 + 1 + 1 ≡ k + 1 + frame_width = omega arith in ((h.1.0, (h.1.1.0, (h.1.1.1.0, tt))), rw e at h.1.1.1.1.0)

  pub wire_back : (w : Wire) (k : ℕ) → WireFits w → Held s k (wire_words w) → wire_at s k ≡ w
  unfolding wire_at
  wire_back Free k f h = rw h.0 refl
  wire_back (Sending x left) k f h = let p = on_wire_lem x left k h in rw (h.0, frame_back x (k + 1) f.0 p.0, bits_back 32 p.1 f.1) refl

  pub wire_fits_lem : (w : Wire) (k : ℕ) → WireFits w → Held s k (wire_words w) → wire_fits s k ≡ true
  unfolding wire_fits
  wire_fits_lem Free k f h = rw h.0 refl
  wire_fits_lem (Sending x left) k f h = let p = on_wire_lem x left k h in rw h.0 (both (frame_fits_lem x (k + 1) f.0 p.0) (bits_fits 32 p.1 f.1))

  pub wire_same : (k : ℕ) → wire_fits s k ≡ true → Held s k (wire_words (wire_at s k))
  unfolding wire_fits wire_at
  wire_same k e = go (eqb (word_at s k) 1) refl e
    where
      go : (b : Bool) → eqb (word_at s k) 1 ≡ b → cond b (frame_fits s (k + 1) && fits_u32 (word_at s (k + 1 + frame_width))) (eqb (word_at s k) 0) ≡ true → Held s k (wire_words (cond b (Sending (frame_at s (k + 1)) (u32_of (word_at s (k + 1 + frame_width)))) Free))
      go true z f =
          let p = and-true (frame_fits s (k + 1)) (fits_u32 (word_at s (k + 1 + frame_width))) f in
          let q = frame_same (k + 1) p.0 in
          let i : k + 1 + 1 + 1 + 1 ≡ k + 1 + frame_width = omega arith in
          (eqb-true (word_at s k) 1 z, (q.0, (q.1.0, (q.1.1.0, (rw i (bits_same 32 (word_at s (k + 1 + frame_width)) p.1), tt)))))
      go false z f = (eqb-true (word_at s k) 0 f, tt)

  pub wire_small : Bytes s → (k : ℕ) → WireFits (wire_at s k)
  unfolding wire_at
  wire_small b k = go (eqb (word_at s k) 1)
    where
      go : (c : Bool) → WireFits (cond c (Sending (frame_at s (k + 1)) (u32_of (word_at s (k + 1 + frame_width)))) Free)
      go true = (frame_small b (k + 1), bits_small 32 (word_at s (k + 1 + frame_width)))
      go false = tt
