-- `tablefile::layout::tagged_of` meets its contract: an edition without tags has none, and in the other the test is the definition's.
use Prim.Native.Nat.{ℕ}
use mathlib.Core.Path.{◌≡◌, sym, ap}
use Rattle.tablefile.specs.declared.Edition.{Edition}
use Rattle.tablefile.specs.declared.Edition.TheVariants.{Avb1, Avb2}
use Rattle.tablefile.specs.Layout.{tagged_of}
use Rattle.tablefile.proofs.layout.tagged_of.Goals as goal

of : (m : ℕ) {e : Edition} (f : Edition) → e ≡ f → tagged_of f m ≡ tagged_of e m
of m f z = ap (λ (x : Edition). tagged_of x m) (sym z)

pub returns-in-Avb1 : goal.returns-in-Avb1
unfolding tagged_of
returns-in-Avb1 c = of c.args.map Avb1 c.in-Avb1.is

pub returns-in-Avb2 : goal.returns-in-Avb2
unfolding tagged_of
returns-in-Avb2 c = of c.args.map Avb2 c.in-Avb2.is
