-- The instants of a row's frames, listed one after the other, and how far apart they are.
use Prim.Native.Nat.{ℕ, ◌+◌, ◌≤◌, ◌<◌}
use mathlib.Core.Bool.{Bool, ◌&&◌}
use mathlib.Core.List.{List, [], ◌∷◌, ◌++◌, append_assoc, append-nil}
use mathlib.Core.Path.{◌≡◌, refl, ap, ◌∙◌}
use native.Mathlib.Numerals.{add-one}
use native.Mathlib.Omega.{arith}
use lib.ListN.{length, get_or, take, set, length-set}
use lib.Seq.{take-suc, take-suc-set}
use Rattle.std.specs.List.{list_all}
use borrow.Author.Tests.{eq-eqb, ne_eqb}
use Rattle.machine.specs.declared.Frame.{Frame}
use Rattle.machine.specs.Record.{taken_in, apart, apart_from}
use Rattle.machine.proofs.FromSound.{taken_append}
use Rattle.machine.proofs.Places.{zero_frame, next}
use Rattle.spacing.specs.declared.Instants.{Instants}
use Rattle.spacing.specs.Steps.{listed, most_frames}

-- ---- how far apart instants are, one from each of a list
pub apart_from_list : (period x : ℕ) (ys : List ℕ) → apart_from period x ys ≡ list_all (apart period x) ys
apart_from_list period x [] = refl
apart_from_list period x (y ∷ ys) = ap (λ (b : Bool). apart period x y && b) (apart_from_list period x ys)

-- ---- a row's instants in a list of frames
module _ (k : ℕ) (f : Frame) where
  pub taken_one : f.source ≡ k → taken_in k (f ∷ []) ≡ f.taken ∷ []
  taken_one e = rw (eq-eqb f.source k e) refl

  pub taken_other : (f.source ≡ k → ⊥) → taken_in k (f ∷ []) ≡ []
  taken_other e = rw (ne_eqb f.source k e) refl

-- ---- one frame after the other, behind what is listed
-- those before i
abbrev pub Listing : ℕ → Instants → List Frame → ℕ → Instants → Type 0
Listing k before fs i next = (next.count ≤ before.count + i) × (length next.taken ≡ most_frames) × (listed next ≡ listed before ++ taken_in k (take i fs))

module _ (k : ℕ) (before : Instants) (fs : List Frame) (i : ℕ) (next : Instants) (l : Listing k before fs i next) where
  one_more : i < length fs → taken_in k (take (i + 1) fs) ≡ taken_in k (take i fs) ++ taken_in k (get_or fs i zero_frame ∷ [])
  one_more h = rw (add-one i, take-suc fs i zero_frame h) (taken_append k (take i fs) (get_or fs i zero_frame ∷ []))

  behind : i < length fs → next.count < most_frames → (get_or fs i zero_frame).source ≡ k → take (next.count + 1) (set next.taken next.count (get_or fs i zero_frame).taken) ≡ listed before ++ taken_in k (take (i + 1) fs)
  behind h g s =
      let x = (get_or fs i zero_frame).taken in
      rw (one_more h, taken_one k (get_or fs i zero_frame) s, add-one next.count, take-suc-set next.taken next.count x (rw l.1 g), l.2) (append_assoc (listed before) (taken_in k (take i fs)) (x ∷ []))

  pub listed_more : (after : Instants) → i < length fs → next.count < most_frames → (get_or fs i zero_frame).source ≡ k → after ≡ record { count = next.count + 1; taken = set next.taken next.count (get_or fs i zero_frame).taken } → Listing k before fs (i + 1) after
  listed_more after h g s e = rw e (omega (arith, l.0), length-set next.taken _ _ ∙ l.1, behind h g s)

  pub listed_same : (after : Instants) → i < length fs → ((get_or fs i zero_frame).source ≡ k → ⊥) → after ≡ next → Listing k before fs (i + 1) after
  listed_same after h s e = rw e (omega (arith, l.0), l.1, rw (one_more h, taken_other k (get_or fs i zero_frame) s, append-nil (taken_in k (take i fs))) l.2)

-- what is on the wire and what waits, one after the other
pub listed_three : (k : ℕ) (w a b : List Frame) (xs ys zs : List ℕ) → xs ≡ taken_in k w → ys ≡ xs ++ taken_in k a → zs ≡ ys ++ taken_in k b → zs ≡ taken_in k (w ++ (a ++ b))
listed_three k w a b xs ys zs p q r =
    rw (r, q, p, taken_append k w (a ++ b), taken_append k a b) (append_assoc (taken_in k w) (taken_in k a) (taken_in k b))
