-- `figures::residences::most_of` meets its contract: a row that does not count in the class adds nothing, one whose residence is within its period adds one.
use Prim.Native.Nat.{ℕ, ◌≤◌, ◌<◌}
use mathlib.Core.Bool.{true}
use mathlib.Core.Path.{◌≡◌, sym, ◌∙◌}
use native.Mathlib.Omega.{arith}
use borrow.Author.Rules.{rules}
use Rattle.table.specs.Rows.{same_class}
use Rattle.table.specs.Wire.{ceil_div}
use Rattle.table.proofs.Laws.{ceil_most, ceil_above, ceil_le}
use Rattle.figures.proofs.residences.most_of.Goals as goal

one : (residence p : ℕ) → 0 < residence → residence ≤ p → 1 ≡ ceil_div residence p
one residence p some h = omega (arith, ceil_most residence p 1 (omega arith) (omega arith), ceil_above residence p 0 (omega arith) (omega arith))

pub returns-then-residence-p-clause-value : goal.returns-then-residence-p-clause-value
returns-then-residence-p-clause-value c =
    let there = sym c.is_there.ensures ∙ c.if-not-is_there.false in
    let same : same_class c.args.class c.args.row.class ≡ true = search rules in
    rw (same, there, ← c.period-p.ensures.value) (one c.args.residence c.period-p.result (c.requires there) c.if-residence-p.true)

pub returns-else-residence-p-clause-small : goal.returns-else-residence-p-clause-small
returns-else-residence-p-clause-small c = rw c.ceil_div.ensures (ceil_le _ _)
