-- `tableread::read::edition_of` meets its contract: AVB2's letters name AVB2, and else it is AVB1.
use mathlib.Core.Bool.{true, false}
use mathlib.Core.Path.{◌≡◌, refl, sym, ◌∙◌}
use Prim.Native.Nat.{ℕ}
use mathlib.Core.List.{List}
use Rattle.tablefile.specs.declared.Edition.TheVariants.{Avb1, Avb2}
use Rattle.tablefile.specs.Reading.{opens, edition_of}
use Rattle.tableread.proofs.read.edition_of.Goals as goal

the_second : (s : List ℕ) → opens Avb2 s ≡ true → Avb2 ≡ edition_of s
unfolding edition_of
the_second s e = rw e refl

the_first : (s : List ℕ) → opens Avb2 s ≡ false → Avb1 ≡ edition_of s
unfolding edition_of
the_first s e = rw e refl

pub returns-then-opens_as : goal.returns-then-opens_as
returns-then-opens_as c = the_second _ (sym c.opens_as.ensures ∙ c.if-opens_as.true)

pub returns-else-opens_as : goal.returns-else-opens_as
returns-else-opens_as c = the_first _ (sym c.opens_as.ensures ∙ c.if-opens_as.false)
