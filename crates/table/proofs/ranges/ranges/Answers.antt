-- `table::ranges::ranges` meets its contract: each return is the first check that fails.
use Rattle.std.proofs.Common.{ℕ, ◌≡◌, Bool, true, leb, ◌&&◌, take, length, position, Option, not, refl, sym, ◌∙◌, rules}
use Rattle.table.specs.declared.Table.{Table}
use Rattle.table.specs.Rows.{rows_of}
use Rattle.table.specs.Ranges.{count_ok, row_ok}
use Rattle.table.proofs.Shape.{places, rows_length, rows_are}
use Rattle.table.proofs.Search.{found_at, none_found}
use Rattle.table.proofs.Ranged.{count_is, count_wrong, count_few, header_wrong, row_wrong, all_right}
use Rattle.table.proofs.ranges.ranges.Goals as goal

-- the count's test is rule 3's
told : (t : Table) {b c : Bool} → b ≡ (leb 1 t.count && leb t.count 32) → b ≡ c → count_ok (rows_of t) ≡ c
told t e f = sym (count_is t) ∙ sym e ∙ f

-- the rows that are searched are the table's
searched : (t : Table) → length t.rows ≡ 32 → count_ok (rows_of t) ≡ true → {r s : Option ℕ} → r ≡ position (λ x. not (row_ok x)) (take t.count t.rows) → r ≡ s → position (λ x. not (row_ok x)) (rows_of t) ≡ s
searched t long e f g = rw (rows_are t (rw long (count_few t e))) (sym f ∙ g)

pub returns-then-not-contains : goal.returns-then-not-contains
returns-then-not-contains c = count_wrong _ (told c.args.t (search rules) c.if-not-contains.true)

pub returns-then-not-header_ok : goal.returns-then-not-header_ok
returns-then-not-header_ok c =
    header_wrong _ (told c.args.t (search rules) c.if-not-contains.false) (sym c.header_ok.ensures ∙ c.if-not-header_ok.true)

pub returns-in-Some : goal.returns-in-Some
returns-in-Some c =
    let count = told c.args.t (search rules) c.if-not-contains.false in
    let p = found_at row_ok _ _ (searched c.args.t (places c.args.t _ c.well_formed.0) count c.out_of_range.ensures c.in-Some.is) in
    row_wrong _ count (sym c.header_ok.ensures ∙ c.if-not-header_ok.false) p.0 (rw (rows_length c.args.t) at p.1)

pub returns-in-None : goal.returns-in-None
returns-in-None c =
    let count = told c.args.t (search rules) c.if-not-contains.false in
    let all = none_found row_ok _ (searched c.args.t (places c.args.t _ c.well_formed.0) count c.out_of_range.ensures c.in-None.is) in
    all_right _ count (sym c.header_ok.ensures ∙ c.if-not-header_ok.false) refl (rw (rows_length c.args.t) at all)
