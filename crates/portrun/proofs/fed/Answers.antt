-- `portrun::fed` meets its contract: 1024 bytes have answers of at most 51,200 bytes, and the run that is written is the one that they lead to.
use mathlib.Core.Path.{sym}
use native.Mathlib.Omega.{arith}
use lib.Seq.{length-take-le}
use Rattle.runs.proofs.Laws.{count_fits, answers_led}
use Rattle.portrun.proofs.fed.Goals as goal

pub slice_bounds-out-end : goal.slice_bounds-out-end
slice_bounds-out-end c = omega (arith, count_fits c.answer_all-a.ensures.shows)

pub slice_bounds-written-end : goal.slice_bounds-written-end
slice_bounds-written-end c = sym (length-take-le _ _ (omega (arith, count_fits c.answer_all-a.ensures.shows)))

pub returns : goal.returns
returns c = answers_led c.answer_all-a.ensures (omega arith) c.written.ensures
