-- The map byte's bits, there and back.
use Prim.Native.Nat.{ℕ, ◌+◌, ◌*◌, ◌/◌, ◌%◌, ◌≤◌, ◌<◌}
use mathlib.Core.Bool.{Bool, true, false, not, cond, ◌&&◌, false≢true}
use mathlib.Core.Path.{◌≡◌, refl, sym, ◌∙◌, ap}
use native.Mathlib.Omega.{arith}
use lib.Dec.{leb, eqb}
use borrow.Author.Tests.{eqb-true, eqb-false, leb-true, leb-false, le-leb, lt-leb}
use Rattle.table.specs.declared.Class.{Class}
use Rattle.table.specs.declared.Class.TheVariants.{A, B}
use Rattle.table.specs.declared.Row.{Row}
use Rattle.tablefile.specs.declared.Edition.{Edition}
use Rattle.tablefile.specs.declared.Edition.TheVariants.{Avb1, Avb2}
use Rattle.tablefile.specs.Layout.{Field, Payload, Period, Deadline, Rate, Samples, rated, usual, states, weight_of, bit_of, reserved, has_tags, allows, tag_weight, tagged_of, tag_bit, two_paces, class_weight, class_by, class_of, class_bit}
use Rattle.tablefile.specs.Writing.{map_byte}
use Rattle.tablefile.proofs.Sizes.{bit_shared}

-- the map byte of a class, of a tag and of which fields are stated
abbrev pub map_for_lem : (payload period deadline rate tagged : Bool) → Class → ℕ
map_for_lem p q d n g c = cond p (weight_of Payload) 0 + cond q (weight_of Period) 0 + cond d (weight_of Deadline) 0 + cond n (weight_of Rate) 0 + tag_bit g + class_bit c

pub map_for : (e : Edition) (r : Row) → map_byte e r ≡ map_for_lem (states e Payload r) (states e Period r) (states e Deadline r) (states e Rate r) r.tagged r.class
unfolding map_byte
map_for e r = refl

-- ---- what its bits say: each is a digit, and the byte their sum by weight
abbrev digit : Bool → ℕ
digit true = 1
digit false = 0

abbrev digit_of : Class → ℕ
digit_of A = 0
digit_of B = 1

small : (b : Bool) → digit b ≤ 1
small true = omega arith
small false = omega arith

weighed : (b : Bool) (w : ℕ) → cond b w 0 ≡ w * digit b
weighed true w = omega arith
weighed false w = omega arith

class_weighed : (c : Class) → class_bit c ≡ class_weight * digit_of c
class_weighed A = refl
class_weighed B = refl

told : (b : Bool) (n : ℕ) → n ≡ digit b → eqb n 1 ≡ b
told true n e = rw e refl
told false n e = rw e refl

module _ (p q d n g : Bool) (c : Class) where
  abbrev byte : ℕ
  byte = map_for_lem p q d n g c

  -- the digits above a bit, from the highest down
  from_tag : byte / 16 ≡ digit g + 8 * digit_of c
  from_tag = omega (arith, weighed p 1, weighed q 2, weighed d 4, weighed n 8, weighed g 16, class_weighed c, small p, small q, small d, small n)

  from_rate : byte / 8 ≡ digit n + 2 * (digit g + 8 * digit_of c)
  from_rate = omega (arith, weighed p 1, weighed q 2, weighed d 4, weighed n 8, weighed g 16, class_weighed c, small p, small q, small d)

  from_deadline : byte / 4 ≡ digit d + 2 * (digit n + 2 * (digit g + 8 * digit_of c))
  from_deadline = omega (arith, weighed p 1, weighed q 2, weighed d 4, weighed n 8, weighed g 16, class_weighed c, small p, small q)

  from_period : byte / 2 ≡ digit q + 2 * (digit d + 2 * (digit n + 2 * (digit g + 8 * digit_of c)))
  from_period = omega (arith, weighed p 1, weighed q 2, weighed d 4, weighed n 8, weighed g 16, class_weighed c, small p)

  from_payload : byte / 1 ≡ digit p + 2 * (digit q + 2 * (digit d + 2 * (digit n + 2 * (digit g + 8 * digit_of c))))
  from_payload = omega (arith, weighed p 1, weighed q 2, weighed d 4, weighed n 8, weighed g 16, class_weighed c)

  payload_told : bit_of Payload byte ≡ p
  unfolding bit_of
  payload_told = told p (byte / 1 % 2) (omega (arith, from_payload, small p))

  period_told : bit_of Period byte ≡ q
  unfolding bit_of
  period_told = told q (byte / 2 % 2) (omega (arith, from_period, small q))

  deadline_told : bit_of Deadline byte ≡ d
  unfolding bit_of
  deadline_told = told d (byte / 4 % 2) (omega (arith, from_deadline, small d))

  rate_told : bit_of Rate byte ≡ n
  unfolding bit_of
  rate_told = told n (byte / 8 % 2) (omega (arith, from_rate, small n))

  tag_told : eqb (byte / tag_weight % 2) 1 ≡ g
  tag_told = told g (byte / tag_weight % 2) (omega (arith, from_tag, small g))

  -- above the tag's bit stands the class's alone
  tag_alone : byte / 16 % 8 ≡ digit g
  tag_alone = omega (arith, from_tag, small g)

  none_between : byte / 32 % 4 ≡ 0
  none_between = omega (arith, from_tag, small g)

  class_told : class_of byte ≡ c
  class_told = go c refl
    where
      go : (k : Class) → c ≡ k → class_of byte ≡ k
      go A e = rw (lt-leb class_weight byte (omega (arith, from_tag, ap digit_of e, small g))) refl
      go B e = rw (le-leb class_weight byte (omega (arith, from_tag, ap digit_of e))) refl

pub record Says (e : Edition) (r : Row) : Type 0 where
  pub field : (f : Field) → bit_of f (map_byte e r) ≡ states e f r
  pub rest : allows e r ≡ true → reserved e (map_byte e r) ≡ 0
  pub one : two_paces (map_byte e r) ≡ false
  pub tag : allows e r ≡ true → tagged_of e (map_byte e r) ≡ r.tagged
  pub class : class_of (map_byte e r) ≡ r.class

-- a row states a period or a rate, never both
one_pace : (rate usual : Bool) → ((not rate && usual) && (rate && true)) ≡ false
one_pace true usual = refl
one_pace false true = refl
one_pace false false = refl

-- an edition without tags allows none
untagged : (r : Row) → allows Avb1 r ≡ true → r.tagged ≡ false
unfolding allows
untagged r h = go r.tagged h
  where
    go : (g : Bool) → cond g false true ≡ true → g ≡ false
    go true z = absurd (false≢true z)
    go false z = refl

module _ (e : Edition) (r : Row) where
  abbrev p : Bool
  p = states e Payload r

  abbrev q : Bool
  q = states e Period r

  abbrev d : Bool
  d = states e Deadline r

  abbrev n : Bool
  n = states e Rate r

  abbrev m : ℕ
  m = map_for_lem p q d n r.tagged r.class

  by_field : (f : Field) → bit_of f m ≡ states e f r
  by_field Payload = payload_told p q d n r.tagged r.class
  by_field Period = period_told p q d n r.tagged r.class
  by_field Deadline = deadline_told p q d n r.tagged r.class
  by_field Rate = rate_told p q d n r.tagged r.class
  by_field Samples = sym (bit_shared m) ∙ rate_told p q d n r.tagged r.class

  clear : (f : Edition) → allows f r ≡ true → reserved f m ≡ 0
  clear Avb1 h = tag_alone p q d n r.tagged r.class ∙ ap digit (untagged r h)
  clear Avb2 h = none_between p q d n r.tagged r.class

  tagged_so : (f : Edition) → allows f r ≡ true → tagged_of f m ≡ r.tagged
  unfolding tagged_of
  tagged_so Avb1 h = sym (untagged r h)
  tagged_so Avb2 h = tag_told p q d n r.tagged r.class

  pub map_says : Says e r
  map_says =
      record {
        field = λ f. rw (map_for e r) (by_field f);
        rest = λ h. rw (map_for e r) (clear e h);
        one = rw (map_for e r) (rw (by_field Period, by_field Rate) (one_pace (rated r.pace) (not (usual e Period r))));
        tag = λ h. rw (map_for e r) (tagged_so e h);
        class = rw (map_for e r) (class_told p q d n r.tagged r.class);
      }

-- ---- the bits say which byte it is: a bit's weight stands exactly if the bit does
weight : (n w : ℕ) → cond (eqb (n % 2) 1) w 0 ≡ w * (n % 2)
weight n w = go (eqb (n % 2) 1) refl
  where
    go : (b : Bool) → eqb (n % 2) 1 ≡ b → cond b w 0 ≡ w * (n % 2)
    go true e = rw (eqb-true (n % 2) 1 e) (omega arith)
    go false e = let ne : n % 2 ≡ 1 → ⊥ = eqb-false (n % 2) 1 e in let z : n % 2 ≡ 0 = omega arith in rw z (omega arith)

class_weight_lem : (m : ℕ) → m < 256 → class_bit (class_of m) ≡ class_weight * (m / class_weight)
class_weight_lem m h = go (leb class_weight m) refl
  where
    go : (b : Bool) → leb class_weight m ≡ b → class_bit (class_by b) ≡ class_weight * (m / class_weight)
    go true e = omega (arith, leb-true class_weight m e)
    go false e = omega (arith, leb-false class_weight m e)

-- bits 5 and 6 are reserved in every edition
between : (e : Edition) (m : ℕ) → reserved e m ≡ 0 → m / 32 % 4 ≡ 0
between Avb1 m h = omega (arith, h)
between Avb2 m h = h

-- a row is read as tagged in an edition with tags alone
pub tag_allowed : (e : Edition) (m : ℕ) → cond (tagged_of e m) (has_tags e) true ≡ true
unfolding tagged_of
tag_allowed Avb1 m = refl
tag_allowed Avb2 m = go (eqb (m / tag_weight % 2) 1)
  where
    go : (b : Bool) → cond b true true ≡ true
    go true = refl
    go false = refl

-- the tag's weight stands exactly if the row is tagged
tag_weight_lem : (e : Edition) (m : ℕ) → reserved e m ≡ 0 → tag_bit (tagged_of e m) ≡ 16 * (m / 16 % 2)
unfolding tagged_of
tag_weight_lem Avb1 m h = omega (arith, h)
tag_weight_lem Avb2 m h = weight (m / 16) 16

joined : (m a b c d h e p q r t g : ℕ) → m ≡ 2 * a + p → a ≡ 2 * b + q → b ≡ 2 * c + r → c ≡ 2 * d + t → d ≡ 2 * h + g → h ≡ 4 * e → m ≡ p + 2 * q + 4 * r + 8 * t + 16 * g + 128 * e
joined m a b c d h e p q r t g i j k l n o = omega arith

digits : (m : ℕ) → m / 32 % 4 ≡ 0 → m ≡ m / 1 % 2 + 2 * (m / 2 % 2) + 4 * (m / 4 % 2) + 8 * (m / 8 % 2) + 16 * (m / 16 % 2) + class_weight * (m / class_weight)
digits m z = joined m (m / 2) (m / 4) (m / 8) (m / 16) (m / 32) (m / 128) (m / 1 % 2) (m / 2 % 2) (m / 4 % 2) (m / 8 % 2) (m / 16 % 2) (omega arith) (omega arith) (omega arith) (omega arith) (omega arith) (omega arith)

pub map_back : (e : Edition) (m : ℕ) → m < 256 → reserved e m ≡ 0 → m ≡ map_for_lem (bit_of Payload m) (bit_of Period m) (bit_of Deadline m) (bit_of Rate m) (tagged_of e m) (class_of m)
unfolding bit_of
map_back e m h z = rw (weight (m / 1) 1, weight (m / 2) 2, weight (m / 4) 4, weight (m / 8) 8, tag_weight_lem e m z, class_weight_lem m h) (digits m (between e m z) ∙ omega arith)
