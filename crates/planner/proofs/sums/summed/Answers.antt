-- `planner::sums::summed` meets its contract: the search goes from row to row, and at i each class's figures so far, joined with those of the rows from i on, are the whole.
use mathlib.Core.Path.{sym, ◌∙◌, ap}
use native.Mathlib.Omega.{arith}
use Rattle.table.specs.declared.Class.TheVariants.{A, B}
use Rattle.table.specs.declared.Refusal.TheVariants.{Value}
use Rattle.table.proofs.Laws.{none_yet, fails_here, passes_here, all_passed}
use Rattle.planner.specs.Opening.{passes_by}
use Rattle.planner.proofs.Left.{at_start, after_turn, at_end}
use Rattle.planner.proofs.sums.summed.Goals as goal

pub loop-i-init : goal.loop-i-init
loop-i-init c = (none_yet (passes_by c.args.gaps) c.args.rows.now, omega arith, omega arith, at_start A c.args.rows.now, at_start B c.args.rows.now)

pub returns-then-not-row_passes : goal.returns-then-not-row_passes
returns-then-not-row_passes c =
    let found = fails_here (passes_by c.args.gaps) c.args.rows.now c.loop-i.i c.loop-i.invariant.0 c.loop-i-test.true (sym c.row_passes.ensures ∙ c.if-not-row_passes.true) in
    (omega arith, ap Value found)

pub loop-i-preserved : goal.loop-i-preserved
loop-i-preserved c =
    let rs = c.args.rows.now in (
      passes_here (passes_by c.args.gaps) rs c.loop-i.i c.loop-i.invariant.0 c.loop-i-test.true (sym c.row_passes.ensures ∙ c.if-not-row_passes.false),
      omega arith,
      omega arith,
      rw c.with_row-a.ensures.value (after_turn A rs c.loop-i.i c.loop-i.a c.loop-i-test.true c.loop-i.invariant.3),
      rw c.with_row-b.ensures.value (after_turn B rs c.loop-i.i c.loop-i.b c.loop-i-test.true c.loop-i.invariant.4),
    )

pub returns : goal.returns
returns c =
    let rs = c.args.rows.now in
    record {
      passed = omega (arith, all_passed (passes_by c.args.gaps) rs c.loop-i.i c.loop-i.invariant.0 c.loop-i-test.false);
      a = at_end A rs c.loop-i.i c.loop-i.a c.loop-i-test.false c.loop-i.invariant.3;
      b = at_end B rs c.loop-i.i c.loop-i.b c.loop-i-test.false c.loop-i.invariant.4;
      small_a = omega arith;
      small_b = omega arith;
    }
