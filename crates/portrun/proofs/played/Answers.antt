-- `portrun::played` meets its contract: what was read has led on from the file's port.
use mathlib.Core.Path.{sym}
use native.Mathlib.Omega.{arith}
use lib.Seq.{length-take-le}
use Rattle.runs.proofs.Laws.{count_fits, begins_led}
use Rattle.portrun.proofs.played.Goals as goal

pub slice_bounds-out-end : goal.slice_bounds-out-end
slice_bounds-out-end c = omega (arith, count_fits c.begin-a.ensures)

pub slice_bounds-written-end : goal.slice_bounds-written-end
slice_bounds-written-end c = sym (length-take-le _ _ (omega (arith, count_fits c.begin-a.ensures)))

pub returns : goal.returns
returns c = begins_led c.begin-a.ensures c.written.ensures c.calls.ensures
