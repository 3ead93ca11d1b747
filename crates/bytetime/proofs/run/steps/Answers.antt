-- `bytetime::run::steps` meets its contract: what has run is the run of as many byte-times as have passed.
use Prim.Native.Nat.{◌-◌}
use mathlib.Core.Bool.{true, false}
use mathlib.Core.Path.{◌≡◌, sym}
use native.Mathlib.Omega.{arith}
use Rattle.bytetime.proofs.Moves.{no_run, run_stays, starts_once, near_started, nearer}
use Rattle.bytetime.proofs.Turns.{carried, carried_near}
use Rattle.bytetime.proofs.run.steps.Goals as goal

pub loop-r-init : goal.loop-r-init
loop-r-init c = (sym (no_run _ _), omega arith, nearer (omega arith) c.requires.near)

pub stretch-more-requires-clause-near : goal.stretch-more-requires-clause-near
stretch-more-requires-clause-near c =
    rw c.started.ensures (nearer (omega (arith, c.loop-r.invariant.1)) (near_started c.loop-r.invariant.2))

pub stretch-more-requires-clause-x_value : goal.stretch-more-requires-clause-x_value
stretch-more-requires-clause-x_value c = rw c.started.ensures (starts_once _ _)

pub loop-r-preserved : goal.loop-r-preserved
loop-r-preserved c =
    let r = c.loop-r.r in
    let on : r.ended ≡ false = grind arith in
    let near = carried_near _ c.args.h _ c.args.x r _ c.loop-r.invariant.0 on c.started.ensures c.stretch-more.ensures c.loop-r.invariant.2 in
    (carried _ c.args.h _ c.args.x r _ c.loop-r.invariant.0 on c.started.ensures c.stretch-more.ensures, omega (arith, c.stretch-more.ensures.most), nearer (omega arith) near)

pub returns-else-not-r : goal.returns-else-not-r
returns-else-not-r c =
    let r = c.loop-r.r in
    let over : r.ended ≡ true = grind arith in
    sym (run_stays (c.args.n - r.passed) r.passed c.args.n c.args.h c.args.x r (omega arith) over (sym c.loop-r.invariant.0))
