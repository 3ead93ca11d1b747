-- `spacing::rows::with_queue` meets its contract: the frames so far are listed.
use Prim.Native.Nat.{◌<◌}
use native.Mathlib.Omega.{arith}
use Rattle.spacing.specs.Steps.{most_frames}
use Rattle.spacing.proofs.Listed.{listed_more, listed_same}
use Rattle.spacing.proofs.rows.with_queue.Goals as goal
use Rattle.spacing.proofs.rows.with_queue.Goals.{then-f-k, else-f-k}

pub loop-f-preserved : goal.loop-f-preserved
loop-f-preserved c =
    let free : c.loop-f.next.count < most_frames = omega (arith, c.loop-f.invariant.0) in
    elim c.if-f-k.branch [
      | then-f-k w ↦ listed_more c.args.k c.args.xs c.args.frames.now c.loop-f.f-index c.loop-f.next c.loop-f.invariant c.if-f-k.next c.loop-f-test.true free w.if-f-k.true w.next-is
      | else-f-k w ↦ listed_same c.args.k c.args.xs c.args.frames.now c.loop-f.f-index c.loop-f.next c.loop-f.invariant c.if-f-k.next c.loop-f-test.true w.if-f-k.false w.next-is
    ]
