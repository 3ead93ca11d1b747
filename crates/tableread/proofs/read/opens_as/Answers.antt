-- `tableread::read::opens_as` meets its contract: a file that starts with the letters has each in its place.
use Prim.Native.Nat.{ℕ}
use mathlib.Core.Bool.{Bool, true, false, ◌&&◌, false≢true}
use mathlib.Core.List.{List, [], ◌∷◌}
use mathlib.Core.Path.{◌≡◌, refl, sym, ◌∙◌, ap}
use lib.Dec.{eqb}
use borrow.Author.Tests.{eqb-true, eq-eqb, ne_eqb}
use Rattle.std.specs.List.{starts_with}
use Rattle.tablefile.specs.declared.Edition.{Edition}
use Rattle.tablefile.specs.declared.Edition.TheVariants.{Avb1, Avb2}
use Rattle.tablefile.specs.Layout.{letters, last_letter}
use Rattle.tablefile.specs.Reading.{opens}
use Rattle.tableread.proofs.read.opens_as.Goals as goal

swap : (a b : ℕ) → eqb a b ≡ eqb b a
swap a b = go (eqb a b) refl
  where
    go : (t : Bool) → eqb a b ≡ t → eqb a b ≡ eqb b a
    go true e = e ∙ sym (eq-eqb b a (sym (eqb-true a b e)))
    go false e = e ∙ sym (ne_eqb b a (λ h. false≢true (sym e ∙ eq-eqb a b (sym h))))

none : (p : Bool) → (p && false) ≡ false
none true = refl
none false = refl

four : (p q r t : Bool) → (p && (q && (r && (t && true)))) ≡ ((p && q) && (r && t))
four false q r t = refl
four true false r t = refl
four true true false t = refl
four true true true true = refl
four true true true false = refl

-- no letter is a 0, which is what is read behind the last byte
letter : (e : Edition) → eqb 0 (last_letter e) ≡ false
letter Avb1 = refl
letter Avb2 = refl

starts : (e : Edition) (s : List ℕ) → starts_with eqb s (letters e) ≡ opens e s
unfolding opens
starts e [] = refl
starts e (a ∷ []) = none (eqb 65 a) ∙ rw (none (eqb a 65)) refl
starts e (a ∷ b ∷ []) = ap (◌&&◌ (eqb 65 a)) (none (eqb 86 b)) ∙ none (eqb 65 a) ∙ sym (none (eqb a 65 && eqb b 86))
starts e (a ∷ b ∷ c ∷ []) =
    ap (◌&&◌ (eqb 65 a)) (ap (◌&&◌ (eqb 86 b)) (none (eqb 66 c)) ∙ none (eqb 86 b)) ∙ none (eqb 65 a)
    ∙ sym (ap (◌&&◌ (eqb a 65 && eqb b 86)) (ap (◌&&◌ (eqb c 66)) (letter e) ∙ none (eqb c 66)) ∙ none (eqb a 65 && eqb b 86))
starts e (a ∷ b ∷ c ∷ d ∷ s) = rw (swap 65 a, swap 86 b, swap 66 c, swap (last_letter e) d) (four (eqb a 65) (eqb b 86) (eqb c 66) (eqb d (last_letter e)))

pub returns : goal.returns
returns c = c.starts_with.ensures.value ∙ ap (starts_with eqb c.args.s.now) c.letters.ensures ∙ starts c.args.edition c.args.s.now
