-- Runs of stores, one behind the other, and a run that is made in a part which was lent.
use Prim.Native.Nat.{ℕ, suc, ◌+◌, ◌-◌, ◌≤◌}
use mathlib.Core.List.{List, [], ◌∷◌, ◌++◌, append_assoc, append-nil}
use mathlib.Core.Path.{◌≡◌, refl, sym, ◌∙◌}
use native.Mathlib.Nat.{add-zero, zero-add, add-suc, suc-add}
use native.Mathlib.Omega.{arith}
use lib.ListN.{length, take, drop, length-drop, drop_of_length-le}
use lib.Seq.{sets, sets-eq, take_all, drop-drop}

pub sets_append : (a b l : List ℕ) (i : ℕ) → sets (sets l i a) (i + length a) b ≡ sets l i (a ++ b)
sets_append [] b l i = rw (add-zero i) refl
sets_append (x ∷ a) b l i = rw (add-suc i (length a), ← suc-add i (length a)) (sets_append a b _ (suc i))

-- a run from the front, and one more behind it
pub sets_next : (a b l : List ℕ) {m : List ℕ} {j : ℕ} → m ≡ sets l 0 a → j ≡ length a → sets m j b ≡ sets l 0 (a ++ b)
sets_next a b l em ej = rw (em, ej, ← zero-add (length a)) (sets_append a b l 0)

-- from the front on
pub sets_front : (vs l : List ℕ) → length vs ≤ length l → sets l 0 vs ≡ vs ++ drop (length vs) l
sets_front vs l h = sets-eq vs l 0 (rw (zero-add (length vs)) h) ∙ rw (zero-add (length vs)) refl

module _ (at : ℕ) (l : List ℕ) where
  -- the part from a place to the end
  pub part_is : take (length l - at) (drop at l) ≡ drop at l
  part_is = take_all (length l - at) (drop at l) (rw length-drop (omega arith))

  -- vs written at the front of that part, which is then put back
  pub part_stored : (vs : List ℕ) {ys : List ℕ} → at + length vs ≤ length l → ys ≡ vs ++ drop (length vs) (take (length l - at) (drop at l)) → take at l ++ (ys ++ drop (length l - at) (drop at l)) ≡ sets l at vs
  part_stored vs h e =
      rw (e, part_is, drop_of_length-le (drop at l) {i = length l - at} (rw length-drop (omega arith)), append-nil, drop-drop (length vs) at l)
      (sym (append_assoc (take at l) vs (drop (at + length vs) l)) ∙ sym (sets-eq vs l at h))

  -- vs written over as many bytes from the place on
  pub part_over : (vs : List ℕ) {k : ℕ} {ys : List ℕ} → k ≡ length vs → ys ≡ vs → at + length vs ≤ length l → take at l ++ (ys ++ drop k (drop at l)) ≡ sets l at vs
  part_over vs ek e h = rw (e, ek, drop-drop (length vs) at l) (sym (append_assoc (take at l) vs (drop (at + length vs) l)) ∙ sym (sets-eq vs l at h))
