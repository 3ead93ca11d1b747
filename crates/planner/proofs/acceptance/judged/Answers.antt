-- `planner::acceptance::judged` meets its contract: the search goes from row to row, at i a class's sum so far, and what the rows from i on add, are the whole, and the first i
-- places hold the bounds.
use Prim.Native.Nat.{ℕ, ◌+◌, ◌≤◌, ◌<◌}
use mathlib.Core.List.{List}
use mathlib.Core.Path.{◌≡◌, refl, sym, ◌∙◌, ap}
use native.Mathlib.Nat.{zero-add}
use native.Mathlib.Omega.{arith}
use lib.ListN.{length, get_or}
use Rattle.table.specs.declared.Class.{Class}
use Rattle.table.specs.declared.Class.TheVariants.{A, B}
use Rattle.table.specs.declared.Row.{Row}
use Rattle.table.specs.Wire.{ceil_div, period_of}
use Rattle.table.specs.declared.Refusal.TheVariants.{Deadline}
use Rattle.table.specs.Rows.{no_row}
use Rattle.table.specs.Checks.{passing}
use Rattle.table.proofs.Laws.{every_at, none_yet, fails_here, passes_here, all_passed}
use Rattle.figures.specs.declared.Lane.{Lane}
use Rattle.figures.specs.Steps.{Ready, time_by}
use Rattle.planner.specs.Sums.{part, sum_over}
use Rattle.planner.specs.Bound.{until_report}
use Rattle.planner.specs.Steps.{bound_by, timely_by, most_by, filled_by}
use Rattle.planner.proofs.Fill.{fill_next}
use Rattle.planner.proofs.Left.{sum_turn, sum_end}
use Rattle.planner.proofs.Crowd.{some, late, in_time}
use Rattle.planner.proofs.acceptance.judged.Invariants.{Rest}
use Rattle.planner.proofs.acceptance.judged.Goals as goal

turn : (c : Class) (a b : Lane) (rs : List Row) (i n : ℕ) {m t : ℕ} → i < length rs → t ≡ time_by a b (get_or rs i no_row) → m ≡ part c (λ x. ceil_div t (period_of x)) (get_or rs i no_row) → Rest c a b rs i n → Rest c a b rs (i + 1) (n + m)
turn c a b rs i n h e f r = rw (f, e) (sum_turn c rs i (most_by a b) n h ∙ r)

end : (c : Class) (a b : Lane) (rs : List Row) (i n : ℕ) → length rs ≤ i → Rest c a b rs i n → n ≡ sum_over c (most_by a b) rs
end c a b rs i n h r = sym (sum_end c rs i (most_by a b) n h) ∙ r

-- the rows before the first that is late have their bounds
filled : (a b : Lane) (rs : List Row) (xs : List ℕ) {i : ℕ} {ys : List ℕ} → i ≡ passing (timely_by a b) rs → ys ≡ filled_by a b rs i xs → ys ≡ filled_by a b rs (passing (timely_by a b) rs) xs
filled a b rs xs e h = h ∙ ap (λ (n : ℕ). filled_by a b rs n xs) e

pub loop-i-init : goal.loop-i-init
loop-i-init c = (none_yet (timely_by c.args.lanes.a c.args.lanes.b) c.args.rows.now, omega arith, omega arith, zero-add _, zero-add _, refl)

pub row_time-residence-requires : goal.row_time-residence-requires
row_time-residence-requires c =
    every_at (λ r. Ready r c.args.lanes.a c.args.lanes.b) c.args.rows.now c.requires.ready c.loop-i.i c.loop-i-test.true

pub returns-then-from-bound : goal.returns-then-from-bound
returns-then-from-bound c =
    let late_row = late c.args.lanes.a c.args.lanes.b _ c.row_time-residence.ensures c.bound_of-bound.ensures (rw c.from.ensures at c.if-from-bound.true) in
    let found = fails_here (timely_by c.args.lanes.a c.args.lanes.b) c.args.rows.now c.loop-i.i c.loop-i.invariant.0 c.loop-i-test.true late_row in
    record { judgement_of = (omega arith, ap Deadline found); bounds = filled c.args.lanes.a c.args.lanes.b c.args.rows.now _ found c.loop-i.invariant.5 }

pub most_of-ofa-requires : goal.most_of-ofa-requires
most_of-ofa-requires c = some c.args.lanes.a c.args.lanes.b _ c.row_time-residence.ensures

pub most_of-ofb-requires : goal.most_of-ofb-requires
most_of-ofb-requires c = some c.args.lanes.a c.args.lanes.b _ c.row_time-residence.ensures

pub loop-i-preserved : goal.loop-i-preserved
loop-i-preserved c =
    let a = c.args.lanes.a in
    let b = c.args.lanes.b in
    let rs = c.args.rows.now in
    let here : c.loop-i.i < length rs = c.loop-i-test.true in (
      passes_here (timely_by a b) rs c.loop-i.i c.loop-i.invariant.0 here (in_time a b _ c.row_time-residence.ensures c.bound_of-bound.ensures (rw c.from.ensures at c.if-from-bound.false)),
      omega (arith, c.most_of-ofa.ensures.small),
      omega (arith, c.most_of-ofb.ensures.small),
      turn A a b rs c.loop-i.i c.loop-i.ofa here c.row_time-residence.ensures c.most_of-ofa.ensures.value c.loop-i.invariant.3,
      turn B a b rs c.loop-i.i c.loop-i.ofb here c.row_time-residence.ensures c.most_of-ofb.ensures.value c.loop-i.invariant.4,
      fill_next (bound_by a b) rs c.args.out.now c.loop-i.i no_row c.loop-i.invariant.5 here (omega arith) (c.bound_of-bound.ensures ∙ ap until_report c.row_time-residence.ensures),
    )

pub returns : goal.returns
returns c =
    let a = c.args.lanes.a in
    let b = c.args.lanes.b in
    let rs = c.args.rows.now in
    let all = all_passed (timely_by a b) rs c.loop-i.i c.loop-i.invariant.0 c.loop-i-test.false in
    record {
      judgement_of = record {
        timely = omega arith;
        ofa = end A a b rs c.loop-i.i c.loop-i.ofa c.loop-i-test.false c.loop-i.invariant.3;
        ofb = end B a b rs c.loop-i.i c.loop-i.ofb c.loop-i-test.false c.loop-i.invariant.4;
      };
      bounds = filled a b rs _ all c.loop-i.invariant.5;
    }
