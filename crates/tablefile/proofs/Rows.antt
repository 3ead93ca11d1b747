-- A row's checks, taken apart: what an accepted row says of its bytes.
use Prim.Native.Nat.{ℕ, ◌+◌, ◌≤◌}
use mathlib.Core.Bool.{Bool, true, false, not, false≢true}
use mathlib.Core.List.{List, [], ◌∷◌, ◌++◌}
use mathlib.Core.Path.{◌≡◌, refl, sym, ◌∙◌}
use native.Mathlib.Omega.{arith}
use lib.Dec.{leb, eqb}
use lib.ListN.{length}
use borrow.Author.Tests.{eqb-true, eq-eqb, leb-true, le-leb, not-true}
use Rattle.table.specs.declared.Class.{Class}
use Rattle.table.specs.declared.Class.TheVariants.{A, B}
use Rattle.table.specs.declared.Row.{Row}
use Rattle.table.specs.Wire.{period_of}
use Rattle.table.specs.Checks.{Outcome, accepted, refused, first}
use Rattle.table.specs.Ranges.{period_ok, pace_ok}
use Rattle.tablefile.specs.declared.Edition.{Edition}
use Rattle.tablefile.specs.Layout.{Field, Payload, Period, Deadline, Rate, Samples, width_of, period_for, default_period, default_deadline, usual, bit_of, reserved, two_paces, class_of, size_in, place_of, row_size}
use Rattle.tablefile.specs.Reading.{map_of, paced_from, row_from, fine, presence, present, judgement, judged, field_checks, row_checks, row}
use Rattle.table.proofs.Laws as law
use Rattle.tablefile.proofs.Sizes.{bit_shared}

-- a default deadline goes by the pace, whatever deadline stands beside it
pub default_by_pace : (ed : Edition) (r : Row) (d : ℕ) → default_deadline ed r ≡ default_deadline ed (record { class = r.class; tagged = r.tagged; payload = r.payload; pace = r.pace; deadline = d })
unfolding default_deadline period_of
default_by_pace ed r d = refl

-- ---- lists of checks
pub accept_first : (xs : List Outcome) → law.Accept xs → first xs ≡ accepted
accept_first [] a = refl
accept_first (accepted ∷ xs) a = accept_first xs a.1
accept_first (refused n p ∷ xs) a = law.never a.0

-- what the first of two lists says, and the second where that accepts
abbrev pub or_else : Outcome → Outcome → Outcome
or_else accepted o = o
or_else (refused n p) o = refused n p

pub first_join : (xs ys : List Outcome) → first (xs ++ ys) ≡ or_else (first xs) (first ys)
first_join [] ys = refl
first_join (accepted ∷ xs) ys = first_join xs ys
first_join (refused n p ∷ xs) ys = refl

-- ---- a field's checks
present_passes : (stands inside : Bool) (place : ℕ) → presence stands inside place ≡ accepted → stands ≡ true → inside ≡ true
present_passes true inside place e h = law.unless_passes inside 1 place e
present_passes false inside place e h = absurd (false≢true h)

present_accepts : (stands inside : Bool) (place : ℕ) → (stands ≡ true → inside ≡ true) → presence stands inside place ≡ accepted
present_accepts true inside place h = rw (h refl) refl
present_accepts false inside place h = refl

-- a field that was judged and let pass: in range, and not at its default
pub record Judged (range usual : Bool) : Type 0 where
  pub ok : range ≡ true
  pub other : usual ≡ false

judged_passes : (stands ok usual : Bool) (place : ℕ) → judgement stands ok usual place ≡ accepted → stands ≡ true → Judged ok usual
judged_passes true true false place e h = record { ok = refl; other = refl }
judged_passes true true true place e h = law.never e
judged_passes true false usual place e h = law.never e
judged_passes false ok usual place e h = absurd (false≢true h)

judged_accepts : (stands ok usual : Bool) (place : ℕ) → (stands ≡ true → Judged ok usual) → judgement stands ok usual place ≡ accepted
judged_accepts true ok usual place h = rw ((h refl).ok, (h refl).other) refl
judged_accepts false ok usual place h = refl

-- ---- a row's checks
abbrev pub Inside : Field → List ℕ → Type 0
Inside f s = bit_of f (map_of s) ≡ true → leb (place_of f (map_of s) + width_of f) (length s) ≡ true

abbrev pub Fits : Edition → Field → List ℕ → Type 0
Fits ed f s = bit_of f (map_of s) ≡ true → Judged (fine f (row_from ed s)) (usual ed f (row_from ed s))

pub record RowRead (ed : Edition) (s : List ℕ) : Type 0 where
  pub long : 1 ≤ length s
  pub bits : reserved ed (map_of s) ≡ 0
  pub one : two_paces (map_of s) ≡ false
  pub inside : (f : Field) → Inside f s
  pub fit : (f : Field) → Fits ed f s

module _ (ed : Edition) (s : List ℕ) (at : ℕ) where
  passes : (f : Field) → judged ed f s at ≡ accepted → Fits ed f s
  passes f e h = judged_passes (bit_of f (map_of s)) (fine f (row_from ed s)) (usual ed f (row_from ed s)) (at + place_of f (map_of s)) e h

  stands_inside : (f : Field) → present f s at ≡ accepted → Inside f s
  stands_inside f e h = present_passes (bit_of f (map_of s)) (leb (place_of f (map_of s) + width_of f) (length s)) (at + place_of f (map_of s)) e h

  accepts : (f : Field) → Fits ed f s → judged ed f s at ≡ accepted
  accepts f h = judged_accepts (bit_of f (map_of s)) (fine f (row_from ed s)) (usual ed f (row_from ed s)) (at + place_of f (map_of s)) h

  is_present : (f : Field) → Inside f s → present f s at ≡ accepted
  is_present f h = present_accepts (bit_of f (map_of s)) (leb (place_of f (map_of s) + width_of f) (length s)) (at + place_of f (map_of s)) h

  abbrev Both : Field → Type 0
  Both f = Inside f s × Fits ed f s

  pub row_if : row ed s at ≡ accepted → RowRead ed s
  unfolding row
  row_if e =
      let a = law.all_accept (row_checks ed s at) e in
      let payload = a.1.1.1 in
      let period = payload.1.1 in
      let deadline = period.1.1 in
      let rate = deadline.1 in
      let samples = rate.1.1 in
      let each =
      by_field (stands_inside Payload payload.0, passes Payload payload.1.0) (stands_inside Period period.0, passes Period period.1.0)
      (stands_inside Deadline deadline.0, passes Deadline samples.1.1.0) (stands_inside Rate rate.0, passes Rate rate.1.0) (stands_inside Samples samples.0, passes Samples samples.1.0) in
      record {
        long = leb-true 1 (length s) (law.unless_passes (leb 1 (length s)) 1 at a.0);
        bits = eqb-true (reserved ed (map_of s)) 0 (law.unless_passes (eqb (reserved ed (map_of s)) 0) 4 at a.1.0);
        one = not-true (two_paces (map_of s)) (law.unless_passes (not (two_paces (map_of s))) 19 at a.1.1.0);
        inside = λ f. (each f).0;
        fit = λ f. (each f).1;
      }
    where
      by_field : Both Payload → Both Period → Both Deadline → Both Rate → Both Samples → (f : Field) → Both f
      by_field p q d r n Payload = p
      by_field p q d r n Period = q
      by_field p q d r n Deadline = d
      by_field p q d r n Rate = r
      by_field p q d r n Samples = n

  field_then : RowRead ed s → (f : Field) {X : Type 0} → X → (present f s at ≡ accepted) × ((judged ed f s at ≡ accepted) × X)
  field_then r f rest = (is_present f (r.inside f), (accepts f (r.fit f), rest))

  pub row_only_if : RowRead ed s → row ed s at ≡ accepted
  unfolding row
  row_only_if r =
      let deadline : law.Accept (judged ed Deadline s at ∷ []) = (accepts Deadline (r.fit Deadline), tt) in
      let rated : (present Deadline s at ≡ accepted) × law.Accept (field_checks ed Rate s at ++ field_checks ed Samples s at ++ judged ed Deadline s at ∷ []) = (is_present Deadline (r.inside Deadline), field_then r Rate (field_then r Samples deadline)) in
      accept_first (row_checks ed s at)
      (rw (le-leb 1 (length s) r.long) refl, (rw (eq-eqb (reserved ed (map_of s)) 0 r.bits) refl, (rw r.one refl, field_then r Payload (field_then r Period rated))))

-- ---- a pace that reads is in range: a stated one was judged, and a class's own period is
own_period : (c : Class) → period_ok (period_for c) ≡ true
own_period A = refl
own_period B = refl

pub pace_in_range : (ed : Edition) (s : List ℕ) → RowRead ed s → pace_ok (paced_from ed s).pace ≡ true
unfolding paced_from row_from pace_ok default_period
pace_in_range ed s x = by_rate (bit_of Rate (map_of s)) refl (bit_of Period (map_of s)) refl
  where
    by_rate : (b : Bool) → bit_of Rate (map_of s) ≡ b → (c : Bool) → bit_of Period (map_of s) ≡ c → pace_ok (paced_from ed s).pace ≡ true
    by_rate true e c f = rw (e, (rw e at (x.fit Rate e).ok), (rw e at (x.fit Samples (sym (bit_shared (map_of s)) ∙ e)).ok)) refl
    by_rate false e true f = rw (e, f) (rw (e, f) at (x.fit Period f).ok)
    by_rate false e false f = rw (e, f) (own_period (class_of (map_of s)))

-- ---- a row that reads stands within its part of the file
field_inside : (f : Field) (m n : ℕ) → place_of f m ≤ n → (bit_of f m ≡ true → leb (place_of f m + width_of f) n ≡ true) → place_of f m + size_in f m ≤ n
field_inside f m n h g = go (bit_of f m) refl
  where
    go : (b : Bool) → bit_of f m ≡ b → place_of f m + size_in f m ≤ n
    go true e = rw e (leb-true _ n (g e))
    go false e = rw e (omega arith)

pub row_inside : (ed : Edition) (s : List ℕ) → RowRead ed s → row_size (map_of s) ≤ length s
row_inside ed s r =
    let next : (f : Field) → place_of f (map_of s) ≤ length s → place_of f (map_of s) + size_in f (map_of s) ≤ length s = λ f h. field_inside f (map_of s) (length s) h (r.inside f) in
    next Samples (next Rate (next Deadline (next Period (next Payload r.long))))
