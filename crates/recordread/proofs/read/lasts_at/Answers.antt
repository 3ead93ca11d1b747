-- `recordread::read::lasts_at` meets its contract: after i turns the first i are in their places.
use mathlib.Core.Path.{◌≡◌, refl, ◌∙◌}
use native.Mathlib.Omega.{arith}
use lib.ListN.{length-set}
use Rattle.recordread.proofs.Named.{no_lasts, next_last, all_lasts}
use Rattle.recordread.proofs.read.lasts_at.Goals as goal

pub loop-i-init : goal.loop-i-init
loop-i-init c = (omega arith, refl, no_lasts c.args.s.now c.args.n refl)

pub loop-i-preserved : goal.loop-i-preserved
loop-i-preserved c =
    (omega arith, length-set c.loop-i.lasts c.loop-i.i c.mark_at.result ∙ c.loop-i.invariant.1, next_last c.args.s.now c.args.n c.loop-i.i (omega arith) (omega arith) c.loop-i.invariant.2 c.mark_at.ensures)

pub returns : goal.returns
returns c =
    let all : c.loop-i.i ≡ c.args.n = omega arith in
    all_lasts c.args.s.now c.args.n (rw all at c.loop-i.invariant.2)
