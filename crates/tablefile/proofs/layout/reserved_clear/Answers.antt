-- `tablefile::layout::reserved_clear` meets its contract: bits 0 to 6 are below a weight exactly if those from its bit on are 0.
use Prim.Native.Nat.{ℕ, ◌/◌, ◌%◌, ◌≤◌, ◌<◌}
use mathlib.Core.Bool.{Bool, true, false}
use mathlib.Core.Path.{◌≡◌, refl, sym, ◌∙◌, ap}
use native.Mathlib.Omega.{arith}
use lib.Dec.{ltb, eqb}
use borrow.Author.Tests.{ltb-true, ltb-false, eq-eqb, ne_eqb}
use Rattle.tablefile.specs.declared.Edition.{Edition}
use Rattle.tablefile.specs.declared.Edition.TheVariants.{Avb1, Avb2}
use Rattle.tablefile.specs.Layout.{reserved_clear, class_weight}
use Rattle.tablefile.proofs.layout.reserved_clear.Goals as goal

-- a test for being below, and one for 0
alike : (a w x : ℕ) → (a < w → x ≡ 0) → (w ≤ a → x ≡ 0 → ⊥) → ltb a w ≡ eqb x 0
alike a w x low high = go (ltb a w) refl
  where
    go : (b : Bool) → ltb a w ≡ b → b ≡ eqb x 0
    go true e = sym (eq-eqb x 0 (low (ltb-true a w e)))
    go false e = sym (ne_eqb x 0 (high (ltb-false a w e)))

all-below : (m : ℕ) → ltb (m % class_weight) 16 ≡ reserved_clear Avb1 m
all-below m = alike (m % class_weight) 16 (m / 16 % 8) (λ h. omega arith) (λ h z. omega arith)

but-the-tag : (m : ℕ) → ltb (m % class_weight) 32 ≡ reserved_clear Avb2 m
but-the-tag m = alike (m % class_weight) 32 (m / 32 % 4) (λ h. omega arith) (λ h z. omega arith)

of : (m : ℕ) {e : Edition} (f : Edition) → e ≡ f → reserved_clear f m ≡ reserved_clear e m
of m f z = ap (λ (x : Edition). reserved_clear x m) (sym z)

pub returns-in-Avb1 : goal.returns-in-Avb1
returns-in-Avb1 c = all-below c.args.map ∙ of _ Avb1 c.in-Avb1.is

pub returns-in-Avb2 : goal.returns-in-Avb2
returns-in-Avb2 c = but-the-tag c.args.map ∙ of _ Avb2 c.in-Avb2.is
