-- `tablefile::layout::allowed` meets its contract: a row without a tag is allowed, and else the edition decides.
use mathlib.Core.Bool.{true, false, not}
use mathlib.Core.Path.{◌≡◌, refl}
use borrow.Author.Tests.{not-true, not-false}
use Rattle.table.specs.declared.Row.{Row}
use Rattle.tablefile.specs.declared.Edition.{Edition}
use Rattle.tablefile.specs.declared.Edition.TheVariants.{Avb1, Avb2}
use Rattle.tablefile.specs.Layout.{allows}
use Rattle.tablefile.proofs.layout.allowed.Goals as goal

without : (e : Edition) (r : Row) → not r.tagged ≡ true → not r.tagged ≡ allows e r
unfolding allows
without e r h = rw (not-true r.tagged h) refl

with_tags : (e : Edition) (r : Row) → r.tagged ≡ true → e ≡ Avb2 → true ≡ allows e r
unfolding allows
with_tags e r g h = rw (g, h) refl

without_tags : (e : Edition) (r : Row) → r.tagged ≡ true → (e ≡ Avb2 → ⊥) → false ≡ allows e r
unfolding allows
without_tags Avb1 r g h = rw g refl
without_tags Avb2 r g h = absurd (h refl)

pub returns-then-not-row : goal.returns-then-not-row
returns-then-not-row c = without _ _ c.if-not-row.true

pub returns-in-Avb2 : goal.returns-in-Avb2
returns-in-Avb2 c = with_tags _ _ (not-false _ c.if-not-row.false) c.in-Avb2.is

pub returns-in_default : goal.returns-in_default
returns-in_default c = without_tags _ _ (not-false _ c.if-not-row.false) c.in_default.not-Avb2
