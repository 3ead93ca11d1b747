-- One field, pace or row: its words give it back, pass the test, and are those of what the test lets pass.
use Prim.Native.Nat.{ℕ, zero, suc, ◌+◌, ◌-◌, ◌%◌, ◌≤◌, ◌<◌, ◌^◌}
use mathlib.Core.Bool.{Bool, true, false, cond, ◌&&◌}
use mathlib.Core.List.{List}
use mathlib.Core.Path.{◌≡◌, refl, sym}
use native.Mathlib.Nat.{mod-eq_of_lt, mod-lt}
use native.Mathlib.Omega.{arith}
use lib.Dec.{leb, eqb}
use lib.ListN.{length}
use lib.Pow.{pow_pos}
use borrow.Author.Tests.{le-leb, leb-true, eqb-true}
use Rattle.table.specs.declared.Class.{Class}
use Rattle.table.specs.declared.Class.TheVariants.{A, B}
use Rattle.table.specs.declared.Pace.{Pace}
use Rattle.table.specs.declared.Pace.TheVariants.{Period, Rated}
use Rattle.table.specs.declared.Row.{Row}
use Rattle.table.proofs.Laws.{and-true}
use Rattle.words.specs.Words.{Every, Word, word_at}
use Rattle.words.proofs.Laws.{Held}
use Rattle.rowbytes.specs.Row.{pace_width, row_width, class_word, tag_word, pace_words, row_words, u8_of, u32_of, class_of, tagged_of, pace_at, row_at, fits_u8, fits_u16, fits_u32, fits_mark, pace_fits, row_fits}
use Rattle.rowbytes.specs.Fits.{PaceFits, RowFits}

pub both : {x y : Bool} → x ≡ true → y ≡ true → x && y ≡ true
both e f = rw e f

-- ---- a field's word gives the field back, and passes the test
pub bits_back : (n : ℕ) {w v : ℕ} → w ≡ v → v < 2 ^ n → w % 2 ^ n ≡ v
bits_back n e h = rw e (mod-eq_of_lt h)

pub bits_fits : (n : ℕ) {w v : ℕ} → w ≡ v → v < 2 ^ n → leb w (2 ^ n - 1) ≡ true
bits_fits n {w} e h = le-leb w (2 ^ n - 1) (omega arith)

class_back : (c : Class) {w : ℕ} → w ≡ class_word c → class_of w ≡ c
class_back A e = rw e refl
class_back B e = rw e refl

class_fits : (c : Class) {w : ℕ} → w ≡ class_word c → fits_mark w ≡ true
class_fits A e = rw e refl
class_fits B e = rw e refl

tag_back : (b : Bool) {w : ℕ} → w ≡ tag_word b → tagged_of w ≡ b
tag_back true e = rw e refl
tag_back false e = rw e refl

tag_fits : (b : Bool) {w : ℕ} → w ≡ tag_word b → fits_mark w ≡ true
tag_fits true e = rw e refl
tag_fits false e = rw e refl

-- ---- a word that passes is the word of the field that it gives; a mark that passes is 0 or 1
pub bits_same : (n w : ℕ) → leb w (2 ^ n - 1) ≡ true → w ≡ w % 2 ^ n
bits_same n w e = sym (mod-eq_of_lt (omega (arith, leb-true w (2 ^ n - 1) e, pow_pos n)))

by_mark : (P : ℕ → Type 0) → P 0 → P 1 → (w : ℕ) → fits_mark w ≡ true → P w
by_mark P none one zero e = none
by_mark P none one (suc zero) e = one
by_mark P none one (suc (suc w)) e = absurd (omega (arith, leb-true (suc (suc w)) 1 e))

class_same : (w : ℕ) → fits_mark w ≡ true → w ≡ class_word (class_of w)
class_same = by_mark (λ w. w ≡ class_word (class_of w)) refl refl

tag_same : (w : ℕ) → fits_mark w ≡ true → w ≡ tag_word (tagged_of w)
tag_same = by_mark (λ w. w ≡ tag_word (tagged_of w)) refl refl

pub bits_small : (n w : ℕ) → w % 2 ^ n < 2 ^ n
bits_small n w = mod-lt w (pow_pos n)

-- ---- how many words they have
pace_wide : (p : Pace) → length (pace_words p) ≤ pace_width
pace_wide (Period p) = omega arith
pace_wide (Rated samples rate) = omega arith

pub row_wide : (r : Row) → length (row_words r) ≤ row_width
row_wide r = omega (arith, pace_wide r.pace)

-- ---- the places of a word's neighbours
second_place : (k : ℕ) → k + 1 + 1 ≡ k + 2
second_place k = omega arith

third_place : (k : ℕ) → k + 2 + 1 ≡ k + 3
third_place k = omega arith

fourth_place : (k : ℕ) → k + 3 + 1 ≡ k + 4
fourth_place k = omega arith

-- ---- a pace and a row, in bytes s
module _ (s : List ℕ) where
  pub second : (k w : ℕ) → word_at s (k + 1 + 1) ≡ w → word_at s (k + 2) ≡ w
  second k w h = rw (second_place k) at h

  pub to_second : (k w : ℕ) → word_at s (k + 2) ≡ w → word_at s (k + 1 + 1) ≡ w
  to_second k w h = rw (second_place k) h

  -- a pace
  pace_words_lem : (p : Pace) → PaceFits p → Every Word (pace_words p)
  pace_words_lem (Period p) f = (omega arith, (omega arith, tt))
  pace_words_lem (Rated samples rate) f = (omega arith, (omega (arith, f.0), (omega (arith, f.1), tt)))

  pace_back : (p : Pace) (k : ℕ) → PaceFits p → Held s k (pace_words p) → pace_at s k ≡ p
  unfolding pace_at
  pace_back (Period p) k f h = rw (h.0, bits_back 32 h.1.0 f) refl
  pace_back (Rated samples rate) k f h = rw (h.0, bits_back 32 h.1.0 f.0, bits_back 8 (second k samples h.1.1.0) f.1) refl

  pace_fits_lem : (p : Pace) (k : ℕ) → PaceFits p → Held s k (pace_words p) → pace_fits s k ≡ true
  unfolding pace_fits
  pace_fits_lem (Period p) k f h = rw h.0 (bits_fits 32 h.1.0 f)
  pace_fits_lem (Rated samples rate) k f h = rw h.0 (both (bits_fits 32 h.1.0 f.0) (bits_fits 8 (second k samples h.1.1.0) f.1))

  pace_same : (k : ℕ) → pace_fits s k ≡ true → Held s k (pace_words (pace_at s k))
  unfolding pace_fits pace_at
  pace_same k e = go (eqb (word_at s k) 1) refl e
    where
      go : (b : Bool) → eqb (word_at s k) 1 ≡ b → cond b (fits_u32 (word_at s (k + 1)) && fits_u8 (word_at s (k + 2))) (eqb (word_at s k) 0 && fits_u32 (word_at s (k + 1))) ≡ true → Held s k (pace_words (cond b (Rated (u8_of (word_at s (k + 2))) (u32_of (word_at s (k + 1)))) (Period (u32_of (word_at s (k + 1))))))
      go true z f =
          let p = and-true (fits_u32 (word_at s (k + 1))) (fits_u8 (word_at s (k + 2))) f in
          (eqb-true (word_at s k) 1 z, (bits_same 32 (word_at s (k + 1)) p.0, (to_second k _ (bits_same 8 (word_at s (k + 2)) p.1), tt)))
      go false z f =
          let p = and-true (eqb (word_at s k) 0) (fits_u32 (word_at s (k + 1))) f in
          (eqb-true (word_at s k) 0 p.0, (bits_same 32 (word_at s (k + 1)) p.1, tt))

  pace_small : (k : ℕ) → PaceFits (pace_at s k)
  unfolding pace_at
  pace_small k = go (eqb (word_at s k) 1)
    where
      go : (c : Bool) → PaceFits (cond c (Rated (u8_of (word_at s (k + 2))) (u32_of (word_at s (k + 1)))) (Period (u32_of (word_at s (k + 1)))))
      go true = (bits_small 32 (word_at s (k + 1)), bits_small 8 (word_at s (k + 2)))
      go false = bits_small 32 (word_at s (k + 1))

  -- a row
  pub row_words_lem : (r : Row) → RowFits r → Every Word (row_words r)
  row_words_lem r f = (class_word_lem r.class, (tag_word_lem r.tagged, (omega (arith, f.payload), (omega (arith, f.deadline), pace_words_lem r.pace f.pace))))
    where
      class_word_lem : (c : Class) → Word (class_word c)
      class_word_lem A = omega arith
      class_word_lem B = omega arith

      tag_word_lem : (b : Bool) → Word (tag_word b)
      tag_word_lem true = omega arith
      tag_word_lem false = omega arith

  -- a row's words, by their places
  record Stands (r : Row) (k : ℕ) : Type 0 where
    class : word_at s k ≡ class_word r.class
    tag : word_at s (k + 1) ≡ tag_word r.tagged
    payload : word_at s (k + 2) ≡ r.payload
    deadline : word_at s (k + 3) ≡ r.deadline
    pace : Held s (k + 4) (pace_words r.pace)

  stands : (r : Row) (k : ℕ) → Held s k (row_words r) → Stands r k
  stands r k h =
      let p = rw (second_place k, third_place k, fourth_place k) at h in
      record { class = p.0; tag = p.1.0; payload = p.1.1.0; deadline = p.1.1.1.0; pace = p.1.1.1.1 }

  stood : (r : Row) (k : ℕ) → Stands r k → Held s k (row_words r)
  stood r k w = rw (second_place k, third_place k, fourth_place k) (w.class, (w.tag, (w.payload, (w.deadline, w.pace))))

  pub row_back : (r : Row) (k : ℕ) → RowFits r → Held s k (row_words r) → row_at s k ≡ r
  row_back r k f h =
      let w = stands r k h in
      rw (
        class_back r.class w.class,
        tag_back r.tagged w.tag,
        bits_back 16 w.payload f.payload,
        bits_back 32 w.deadline f.deadline,
        pace_back r.pace (k + 4) f.pace w.pace,
      )
      refl

  pub row_fits_lem : (r : Row) (k : ℕ) → RowFits r → Held s k (row_words r) → row_fits s k ≡ true
  row_fits_lem r k f h =
      let w = stands r k h in
      both (both (class_fits r.class w.class) (tag_fits r.tagged w.tag))
      (both (bits_fits 16 w.payload f.payload) (both (bits_fits 32 w.deadline f.deadline) (pace_fits_lem r.pace (k + 4) f.pace w.pace)))

  pub row_same : (k : ℕ) → row_fits s k ≡ true → Held s k (row_words (row_at s k))
  row_same k e =
      let p = and-true (fits_mark (word_at s k) && fits_mark (word_at s (k + 1))) _ e in
      let marks = and-true (fits_mark (word_at s k)) (fits_mark (word_at s (k + 1))) p.0 in
      let rest = and-true (fits_u16 (word_at s (k + 2))) _ p.1 in
      let last = and-true (fits_u32 (word_at s (k + 3))) (pace_fits s (k + 4)) rest.1 in
      stood (row_at s k) k
      record {
        class = class_same (word_at s k) marks.0;
        tag = tag_same (word_at s (k + 1)) marks.1;
        payload = bits_same 16 (word_at s (k + 2)) rest.0;
        deadline = bits_same 32 (word_at s (k + 3)) last.0;
        pace = pace_same (k + 4) last.1;
      }

  pub row_small : (k : ℕ) → RowFits (row_at s k)
  row_small k = record { payload = bits_small 16 (word_at s (k + 2)); pace = pace_small (k + 4); deadline = bits_small 32 (word_at s (k + 3)) }
