-- `bytetime::run::stretch` meets its contract: when i byte-times have passed the numbers are those of i byte-times.
use mathlib.Core.Path.{◌≡◌}
use Rattle.bytetime.specs.Bytes.{hot_with}
use Rattle.bytetime.proofs.Turns.{Turn}
use Rattle.bytetime.proofs.run.stretch.Given as goal

abbrev pub invariant-loop-i : goal.invariant-loop-i
invariant-loop-i l = (l.hot ≡ hot_with l.fn.h l.hot.credita l.hot.creditb l.hot.left) × Turn l.fn.h l.fn.x l.i l.hot.credita l.hot.creditb l.hot.left
