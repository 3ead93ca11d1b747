-- `figures::residences::residence` meets its contract: by whether the class's numbers are small and have the row's wire size in their sum.
use Prim.Native.Nat.{◌<◌}
use mathlib.Core.Bool.{true, ◌&&◌}
use mathlib.Core.Path.{◌≡◌, sym, ◌∙◌}
use lib.Dec.{leb}
use borrow.Author.Tests.{leb-true}
use Rattle.table.specs.Limits.{most_slope}
use Rattle.table.proofs.Laws.{and-true}
use Rattle.figures.specs.declared.Lane.{Lane}
use Rattle.figures.specs.Lanes.{most_modest, modest}
use Rattle.figures.specs.Steps.{Modest}
use Rattle.figures.proofs.residences.residence.Goals as goal

ready : (l : Lane) → modest l ≡ true → Modest l × (0 < l.idle)
unfolding modest
ready l e =
    let p = and-true (leb 1 l.idle && leb l.idle most_slope) _ e in
    let q = and-true (leb 1 l.idle) (leb l.idle most_slope) p.0 in
    let r = and-true (leb l.largest most_modest) _ p.1 in
    let s = and-true (leb l.total most_modest) (leb l.blocking most_modest) r.1 in
    (record { idle = leb-true _ _ q.1; largest = leb-true _ _ r.0; total = leb-true _ _ s.0; blocking = leb-true _ _ s.1 }, leb-true _ _ q.0)

pub row_residence-requires-clause-modest : goal.row_residence-requires-clause-modest
row_residence-requires-clause-modest c = (ready _ (sym c.is_modest.ensures ∙ c.if-is_modest.true)).0

pub row_residence-requires-clause-idle_nonzero : goal.row_residence-requires-clause-idle_nonzero
row_residence-requires-clause-idle_nonzero c = (ready _ (sym c.is_modest.ensures ∙ c.if-is_modest.true)).1
