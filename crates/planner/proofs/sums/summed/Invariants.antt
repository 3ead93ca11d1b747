-- `planner::sums::summed` meets its contract: the search goes from row to row, and at i each class's figures so far, joined with those of the rows from i on, are the whole.
use Rattle.table.specs.declared.Class.TheVariants.{A, B}
use Rattle.table.proofs.Laws.{Passed}
use Rattle.planner.specs.Opening.{passes_by}
use Rattle.figures.specs.Steps.{Small}
use Rattle.planner.proofs.Left.{Remaining}
use Rattle.planner.proofs.sums.summed.Given as goal

abbrev pub invariant-loop-i : goal.invariant-loop-i
invariant-loop-i l = Passed (passes_by l.gaps) l.rows l.i × Small l.i l.a × Small l.i l.b × Remaining A l.rows l.i l.a × Remaining B l.rows l.i l.b
