-- `record::check::parts_order` meets its contract: a record that fails a test is broken, and one that passes the others is sound if its rows are.
use Prim.Native.Nat.{ℕ}
use mathlib.Core.Bool.{Bool, true, false, false≢true, not}
use mathlib.Core.List.{List}
use mathlib.Core.Path.{◌≡◌, sym, ◌∙◌, ap}
use Rattle.machine.specs.State.{view}
use Rattle.machine.proofs.Places.{Places}
use Rattle.table.proofs.Laws.{fails, holds}
use Rattle.frames.specs.Tests.{limits_by}
use Rattle.record.proofs.Parts.{Right, broken, by_rows}
use Rattle.record.proofs.Viewed.{few, right, best_placed, accepted_table}
use Rattle.record.proofs.check.parts_order.Goals.{Start, then-not-numbers_ok-via-then-not-numbers_ok, then-not-numbers_ok-via-else-not-numbers_ok+then-not-others_ok}
use Rattle.record.proofs.check.parts_order.Goals as goal

never_both : {x : Bool} → x ≡ false → x ≡ true → ⊥
never_both e f = false≢true (sym e ∙ f)

-- what is known at the entry: the record's places, and that the limits are its rows' residences
placed : (c : Start) → Places c.args.p.now
placed c = c.requires.places

abbrev limits : Start → List ℕ
limits c = limits_by c.args.lanes.a c.args.lanes.b c.args.p.now.table.rows

residences : (c : Start) → Right (view c.args.p.now).table (limits c)
residences c = right c.args.p.now (placed c).rows c.requires.table_value c.requires.a_value c.requires.b_value

pub returns-then-not-numbers_ok : goal.returns-then-not-numbers_ok
returns-then-not-numbers_ok c =
    let s = (goal.at.returns-then-not-numbers_ok c).Start in
    let p = view c.args.p.now in
    sym (elim c.then-not-numbers_ok.branch [
      | then-not-numbers_ok-via-then-not-numbers_ok w ↦ broken p (limits s) (residences s) (λ t. never_both (fails c.numbers_ok.ensures (ap not w.if-not-numbers_ok.true)) t.numbers)
      | then-not-numbers_ok-via-else-not-numbers_ok+then-not-others_ok w ↦ broken p (limits s) (residences s) (λ t. never_both (fails w.others_ok.ensures (ap not w.if-not-others_ok.true)) t.others)
    ])

pub rows_order-requires : goal.rows_order-requires
rows_order-requires c =
    record { places = c.requires.places; count_le_most_rows = few c.args.p.now.table c.requires.table_value; bounded = c.requires.bounded }

pub returns : goal.returns
returns c =
    let s = (goal.at.returns c).Start in
    let fit = holds c.others_ok.ensures (ap not c.if-not-others_ok.false) in
    rw (by_rows (view c.args.p.now) (limits s) (residences s) (accepted_table c.args.p.now c.requires.table_value) c.requires.p_value c.requires.p_value_2 (best_placed c.args.p.now _ (placed s) fit) (holds c.numbers_ok.ensures (ap not c.if-not-numbers_ok.false)) fit) at c.rows_order.ensures
