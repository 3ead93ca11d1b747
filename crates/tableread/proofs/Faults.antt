-- What is wrong with a row, part by part.
use Prim.Native.Nat.{ℕ, ◌+◌}
use mathlib.Core.Bool.{Bool, true, false}
use mathlib.Core.List.{List, [], ◌∷◌, ◌++◌}
use mathlib.Core.Path.{◌≡◌, refl, sym, ◌∙◌, ap}
use lib.Dec.{leb}
use lib.ListN.{length}
use Rattle.std.specs.Prelude.{Result, Ok, Err, IsErrAnd}
use Rattle.std.proofs.lemmas.Result.{err_from_is_err_and}
use Rattle.table.specs.declared.Row.{Row}
use Rattle.table.specs.Checks.{Outcome, accepted, refused, first}
use Rattle.tablefile.specs.declared.Edition.{Edition}
use Rattle.tablefile.specs.declared.Misread.{Misread}
use Rattle.tablefile.specs.Layout.{Field, width_of, usual, bit_of, place_of}
use Rattle.tablefile.specs.Reading.{map_of, row_from, fine, presence, present, judgement, judged, outcome_of}
use Rattle.tablefile.proofs.Laws.{first_join}

-- ---- a `?` hands a misread on as it is
pub handed_on : {T : Type 0} (r : Result T Misread) {m : Misread} → IsErrAnd r (λ y. y ≡ m) → r ≡ Err m
handed_on r e = let p = err_from_is_err_and r e in p.1 ∙ ap Err p.2

-- ---- checks one behind the other: the first that refuses decides, and one that accepts leaves it to the rest
module _ {q : Result (Unit {0}) Misread} where
  pub stop : (r : Result (Unit {0}) Misread) {m : Misread} {x : Outcome} (xs : List Outcome) → IsErrAnd r (λ y. y ≡ m) → q ≡ Err m → outcome_of q ≡ x → outcome_of r ≡ first (x ∷ xs)
  stop r xs e h c = let here = sym c ∙ ap outcome_of h in ap outcome_of (handed_on r e) ∙ rw here refl

  pub pass : {u : Unit {0}} {x o : Outcome} (xs : List Outcome) → q ≡ Ok u → outcome_of q ≡ x → o ≡ first xs → o ≡ first (x ∷ xs)
  pass xs h c e = let here = sym c ∙ ap outcome_of h in e ∙ rw here refl

  pub stop_in : (r : Result (Unit {0}) Misread) {m : Misread} (xs ys : List Outcome) → IsErrAnd r (λ y. y ≡ m) → q ≡ Err m → outcome_of q ≡ first xs → outcome_of r ≡ first (xs ++ ys)
  stop_in r xs ys e h c = let here = sym c ∙ ap outcome_of h in ap outcome_of (handed_on r e) ∙ sym (first_join xs ys ∙ rw here refl)

  pub pass_in : {u : Unit {0}} {o : Outcome} (xs ys : List Outcome) → q ≡ Ok u → outcome_of q ≡ first xs → o ≡ first ys → o ≡ first (xs ++ ys)
  pass_in xs ys h c e = let here = sym c ∙ ap outcome_of h in e ∙ sym (first_join xs ys ∙ rw here refl)

pub alone : (o : Outcome) → o ≡ first (o ∷ [])
alone accepted = refl
alone (refused n p) = refl

-- ---- what is tested of a field is the field's
module _ (f : Field) (s : List ℕ) (at : ℕ) {m : ℕ} (em : m ≡ map_of s) {b : Bool} (eb : b ≡ bit_of f m) {place : ℕ} (ep : place ≡ place_of f m) where
  pub present_told : presence b (leb (place + width_of f) (length s)) (at + place) ≡ present f s at
  present_told = rw (eb, ep, em) refl

  -- a field that does not stand is not judged, so what is held for it does not matter
  pub judged_told : (ed : Edition) {r : Row} {ok default : Bool} → (b ≡ true → r ≡ row_from ed s) → ok ≡ fine f r → default ≡ usual ed f r → judgement b ok default (at + place) ≡ judged ed f s at
  judged_told ed {r} {ok} {default} er eo eu = by_bit b refl ∙ rw (eb, ep, em) refl
    where
      by_bit : (c : Bool) → b ≡ c → judgement c ok default (at + place) ≡ judgement c (fine f (row_from ed s)) (usual ed f (row_from ed s)) (at + place)
      by_bit true h = rw (eo, eu, er h) refl
      by_bit false h = refl
