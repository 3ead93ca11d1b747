-- `bytetime::run::steps` meets its contract: what has run is the run of as many byte-times as have passed.
use Prim.Native.Nat.{◌+◌, ◌-◌, ◌*◌, ◌≤◌}
use mathlib.Core.Path.{◌≡◌}
use Rattle.table.specs.Limits.{D}
use Rattle.bytetime.specs.Bytes.{reach, run_hot, Near}
use Rattle.bytetime.proofs.run.steps.Given as goal

abbrev pub invariant-loop-r : goal.invariant-loop-r
invariant-loop-r l = (l.r ≡ run_hot l.r.passed l.fn.h l.x) × (l.r.passed ≤ l.n) × Near (reach + l.r.passed * (D + 1)) l.r.hot l.x

abbrev pub decreases-loop-r : goal.decreases-loop-r
decreases-loop-r l = l.n - l.r.passed
