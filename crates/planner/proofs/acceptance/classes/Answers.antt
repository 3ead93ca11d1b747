-- `planner::acceptance::classes` meets its contract: each return is the first check that fails.
use mathlib.Core.Bool.{Bool, true, ◌&&◌}
use mathlib.Core.Path.{◌≡◌, refl, sym, ◌∙◌}
use native.Mathlib.Omega.{arith}
use lib.Dec.{leb}
use lib.ListN.{length, take, length-take}
use borrow.Author.Rules.{rules}
use Rattle.table.specs.declared.Class.{Class}
use Rattle.table.specs.declared.Class.TheVariants.{A, B}
use Rattle.table.specs.declared.Table.{Table}
use Rattle.table.specs.declared.Refusal.TheVariants.{RowCount, Value}
use Rattle.table.specs.Limits.{most_rows}
use Rattle.table.specs.Rows.{rows_of, contents}
use Rattle.table.specs.Ranges.{count_ok}
use Rattle.table.proofs.Laws.{places, rows_are, count_is, count_few}
use Rattle.figures.specs.declared.Figures.{Figures}
use Rattle.figures.specs.declared.Both.{Both}
use Rattle.planner.specs.Sums.{members, largest, total, shares}
use Rattle.planner.specs.Steps.{figures_in, figures_of, AllIn}
use Rattle.planner.proofs.Verdicts.{refused_right, handed_on, by_count, by_header, by_row, in_range}
use Rattle.planner.proofs.acceptance.classes.Goals as goal

-- the count's test is rule 3's
told : (t : Table) {b c : Bool} → b ≡ (leb 1 t.count && leb t.count most_rows) → b ≡ c → count_ok (rows_of t) ≡ c
told t e f = sym (count_is t) ∙ sym e ∙ f

-- the rows that are summed are the table's
own_rows : (t : Table) → length t.rows ≡ 32 → count_ok (rows_of t) ≡ true → rows_of t ≡ take t.count t.rows
own_rows t long e = rows_are t (rw long (count_few t e))

own : (gaps : Bool) (t : Table) → length t.rows ≡ 32 → count_ok (rows_of t) ≡ true → {r : Both Figures} → AllIn gaps (take t.count t.rows) r → AllIn gaps (rows_of t) r
own gaps t long e s = rw (own_rows t long e) s

figures : (c : Class) (t : Table) → figures_in c (rows_of t) ≡ figures_of c (contents t)
unfolding members largest total shares
figures c t = refl

pub summed-requires : goal.summed-requires
summed-requires c =
    let h = count_few c.args.t (told c.args.t (search rules) c.if-not-contains.false) in
    simp length-take (omega arith)

pub returns-then-not-contains : goal.returns-then-not-contains
returns-then-not-contains c =
    let p = refused_right _ _ _ RowCount (by_count c.args.gaps _ (told c.args.t (search rules) c.if-not-contains.true)) refl in record { classed = p.0; bounds = p.1 }

pub returns-then-not-header_ok : goal.returns-then-not-header_ok
returns-then-not-header_ok c =
    let p = refused_right _ _ _ (Value 32) (by_header c.args.gaps _ (told c.args.t (search rules) c.if-not-contains.false) (sym c.header_ok.ensures ∙ c.if-not-header_ok.true)) refl in record { classed = p.0; bounds = p.1 }

pub returns-in_err-sums : goal.returns-in_err-sums
returns-in_err-sums c =
    let count = told c.args.t (search rules) c.if-not-contains.false in
    let s = own_rows c.args.t (places c.args.t _ c.well_formed.1.0) count in
    let sums = c.in_err-sums.ensures in
    let p = handed_on c.args.gaps (contents c.args.t) _ c.from_residual.result (Value _) c.from_residual.ensures.1 (rw (← s) at sums.1) (by_row c.args.gaps _ count (sym c.header_ok.ensures ∙ c.if-not-header_ok.false) refl (rw (← s) at sums.0)) refl in
    record { classed = p.0; bounds = p.1 }

pub fair_classes-requires : goal.fair_classes-requires
fair_classes-requires c =
    let count = told c.args.t (search rules) c.if-not-contains.false in
    let long = places c.args.t _ c.well_formed.1.0 in
    let s = own c.args.gaps c.args.t long count c.in_ok-sums.ensures in
    record { places = long; summed = record { is_a = s.a ∙ figures A c.args.t; is_b_lem = s.b ∙ figures B c.args.t; small_a = s.small_a; small_b = s.small_b }; t_value = in_range c.args.gaps _ count (sym c.header_ok.ensures ∙ c.if-not-header_ok.false) refl s.passed }
