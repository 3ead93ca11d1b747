-- Text put into a buffer, piece by piece.
use Prim.Native.Nat.{ℕ, zero, suc, ◌+◌, ◌-◌, ◌/◌, ◌%◌, ◌^◌, ◌≤◌, ◌<◌, zero-le}
use mathlib.Core.Bool.{Bool, true, false, cond}
use mathlib.Core.List.{List, [], ◌∷◌, ◌++◌, append_assoc}
use mathlib.Core.Path.{◌≡◌, refl, sym, ◌∙◌}
use native.Mathlib.Nat.{pow-le-pow_right, pow-succ', lt_of_not-le, not-suc-le-zero}
use native.Mathlib.Omega.{arith}
use lib.ListN.{length, take, drop, length-append, length-take}
use lib.Seq.{drop-drop, take-append_seam}
use borrow.Rule.Slice.PartMut.{put_mid}
use lib.Dec.{leb, ltb}
use borrow.Author.Tests.{lt-ltb, le-ltb, le-leb, lt-leb, leb-true}
use Rattle.io.specs.Digits.{hex_digit_ascii, last_digits, IsDigitCount}
use Rattle.texts.specs.declared.text.Answer.{Answer}
use Rattle.texts.specs.declared.text.Answer.TheVariants.{Refused, Passed}
use Rattle.texts.specs.Text.{decimal_by, decimal, pair, line_of, line_size, used_by, put_at, Put}

-- ---- a text put whole, or not at all
module _ (at : ℕ) (text before : List ℕ) where
  pub no_room : length before < at + length text → (at ≡ used_by text at before) × (before ≡ put_at text at before)
  unfolding used_by put_at
  no_room h = let e = lt-leb (at + length text) (length before) h in (rw e refl, rw e refl)

  pub all_put : (n : ℕ) {bytes : List ℕ} → at + length text ≤ length before → n ≡ length text → bytes ≡ text → (at + length text ≡ used_by text at before) × (put_mid at n before bytes ≡ put_at text at before)
  unfolding used_by put_at
  all_put n room e same =
      let z = le-leb (at + length text) (length before) room in
      (rw z refl, rw (z, same, e, drop-drop (length text) at before) (sym (append_assoc (take at before) text (drop (at + length text) before))))

-- The bytes in use stay within the buffer.
pub within : (at : ℕ) (text before : List ℕ) {next : ℕ} → next ≡ used_by text at before → at ≤ length before → next ≤ length before
unfolding used_by
within at text before {next} e h = by_test (leb (at + length text) (length before)) refl e
  where
    by_test : (b : Bool) → leb (at + length text) (length before) ≡ b → next ≡ cond b (at + length text) at → next ≤ length before
    by_test true t z = omega (arith, leb-true (at + length text) (length before) t, z)
    by_test false t z = omega (arith, z)

-- What is put of a text is put of an equal one.
pub same_text : (at : ℕ) (before : List ℕ) {next : ℕ} {s t after : List ℕ} → s ≡ t → (next ≡ used_by s at before) × (after ≡ put_at s at before) → (next ≡ used_by t at before) × (after ≡ put_at t at before)
same_text at before e p = (rw (← e) p.0, rw (← e) p.1)

-- ---- a text that has room
pub text_put : {at next : ℕ} {text before after : List ℕ} → (next ≡ used_by text at before) × (after ≡ put_at text at before) → at + length text ≤ length before → Put (length text) text before at after next
unfolding used_by put_at
text_put {at} {next} {text} {before} {after} p room =
    let z = le-leb (at + length text) (length before) room in
    let long : next ≡ at + length text = p.0 ∙ rw z refl in
    let bytes : after ≡ (take at before ++ text) ++ drop (at + length text) before = p.1 ∙ rw z refl in
    let n : length (take at before ++ text) ≡ at + length text = rw (length-append, length-take) (omega arith) in
    let first : take next after ≡ take at before ++ text = rw (long ∙ sym n, bytes) (take-append_seam (take at before ++ text) (drop (at + length text) before)) in
    record { few = omega (arith, long); bytes = first; long = long }

-- One text behind another.
pub then : {m n : ℕ} {s t before middle after : List ℕ} {at next last : ℕ} → Put m s before at middle next → Put n t middle next after last → Put (m + n) (s ++ t) before at after last
then {m} {n} {s} {t} {before} {middle} {after} {at} p q =
    record { few = omega (arith, p.few, q.few); bytes = q.bytes ∙ rw p.bytes (append_assoc (take at before) s t); long = rw length-append (omega (arith, p.long, q.long)) }

pub at_most : {m n at next : ℕ} {text before after : List ℕ} → m ≤ n → Put m text before at after next → Put n text before at after next
at_most h p = record { few = omega (arith, h, p.few); bytes = p.bytes; long = p.long }

-- A text at the front of a buffer.
pub whole_text : {m n : ℕ} {text before after : List ℕ} → Put m text before 0 after n → take n after ≡ text
whole_text p = p.bytes

pub whole_length : {m n : ℕ} {text before after : List ℕ} → Put m text before 0 after n → n ≡ length (take n after)
whole_length p = rw (whole_text p) (omega (arith, p.long))

-- The fewest digits are those of the definition.
digit : (n : ℕ) → hex_digit_ascii (n % 10) ≡ 48 + n % 10
digit n = rw (lt-ltb (n % 10) 10 (omega arith))

spelt : (f k n : ℕ) → k < f → n < 10 ^ suc k → (0 < k → 10 ^ k ≤ n) → last_digits 10 (suc k) n ≡ decimal_by f n
spelt zero k n h g l = absurd (not-suc-le-zero h)
spelt (suc f) zero n h g l =
    let few : n < 10 = g in
    let same : n % 10 ≡ n = omega arith in
    rw (lt-ltb n 10 few, digit n, same)
spelt (suc f) (suc k) n h g l =
    let some : 1 ≤ 10 ^ k = pow-le-pow_right (omega arith) zero-le in
    let many : 10 ^ suc k ≤ n = l (omega arith) in
    rw (le-ltb n 10 (omega (arith, pow-succ' 10 k)), digit n, spelt f k (n / 10) (omega arith) (omega (arith, pow-succ' 10 k, pow-succ' 10 (suc k))) (λ _. omega (arith, pow-succ' 10 k)))

least : (n k : ℕ) → 0 < k → IsDigitCount 10 1 n (suc k) → 10 ^ k ≤ n
least n k g f = let z : suc k - 1 ≡ k = omega arith in rw z at (f.2 (omega arith))

digits_few : (n k : ℕ) → n < 2 ^ 64 → IsDigitCount 10 1 n k → k ≤ 20
digits_few n zero h f = zero-le
digits_few n (suc k) h f = lt_of_not-le (λ g. let p : 10 ^ 20 ≤ 10 ^ k = pow-le-pow_right (omega arith) g in omega (arith, least n k (omega arith) f))

pub spelled : (n k : ℕ) → n < 2 ^ 64 → IsDigitCount 10 1 n k → last_digits 10 k n ≡ decimal n
unfolding decimal
spelled n zero h f = absurd (not-suc-le-zero f.0)
spelled n (suc k) h f = spelt 20 k n (omega (arith, digits_few n (suc k) h f)) f.1 (λ g. least n k g f)

digits_short : (k n : ℕ) → length (decimal_by k n) ≤ k
digits_short zero n = omega arith
digits_short (suc k) n = by_test (ltb n 10) (digits_short k (n / 10))
  where
    by_test : (b : Bool) → length (decimal_by k (n / 10)) ≤ k → length (cond b ((48 + n) ∷ []) (decimal_by k (n / 10) ++ (48 + n % 10) ∷ [])) ≤ suc k
    by_test true h = omega arith
    by_test false h = rw length-append (omega arith)

pub decimal_short : (n : ℕ) → length (decimal n) ≤ 20
unfolding decimal
decimal_short n = digits_short 20 n

pub number_put : (n : ℕ) {at next : ℕ} {before after : List ℕ} → (next ≡ used_by (decimal n) at before) × (after ≡ put_at (decimal n) at before) → at + 20 ≤ length before → Put 20 (decimal n) before at after next
number_put n p room = at_most (decimal_short n) (text_put p (omega (arith, decimal_short n)))

-- ---- an answer's line
pair_short : (x y : ℕ) → length (pair x y) ≤ 42
pair_short x y = rw (length-append, length-append, length-append) (omega (arith, decimal_short x, decimal_short y))

pub line_short : (a : Answer) → length (line_of a) ≤ line_size
line_short (Refused number place) = omega (arith, pair_short number place)
line_short (Passed passed row) = omega (arith, pair_short passed row)

pub answer_put : {at next : ℕ} {before after : List ℕ} (a : Answer) → at + line_size ≤ length before → next ≡ used_by (line_of a) at before → after ≡ put_at (line_of a) at before → Put line_size (line_of a) before at after next
answer_put a room en ea = at_most (line_short a) (text_put (en, ea) (omega (arith, line_short a)))
