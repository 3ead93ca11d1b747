-- `recordwrite::write::put_bounds` meets its contract: after i turns the first i bounds are stored.
use mathlib.Core.Path.{refl, ◌∙◌}
use native.Mathlib.Omega.{arith}
use lib.ListN.{take}
use lib.Seq.{take_all}
use denote.Builtin.{u64}
use Rattle.table.specs.Limits.{most_rows}
use Rattle.words.proofs.Laws.{array_places, spread_none, spread_next}
use Rattle.recordbytes.specs.Layout.{bounds_start, bound_width}
use Rattle.recordbytes.specs.Record.{bound_words}
use Rattle.recordwrite.proofs.Storage.{bounds_placed}
use Rattle.recordwrite.proofs.write.put_bounds.Goals as goal

pub loop-i-init : goal.loop-i-init
loop-i-init c = spread_none bound_words bound_width bounds_start _

pub loop-i-preserved : goal.loop-i-preserved
loop-i-preserved c = spread_next bound_words bound_width bounds_start (take c.min.result c.args.bounds) _ c.loop-i.i _ c.loop-i-test.true c.loop-i.invariant c.put_word.ensures

pub returns : goal.returns
returns c =
    c.loop-i.invariant ∙ rw (take_all c.loop-i.i (take c.min.result c.args.bounds) (omega arith), c.min.ensures, bounds_placed c.args.count c.args.bounds (array_places u64 most_rows c.args.bounds _ c.well_formed.1.0)) refl
