-- `recordchange::change::leave` meets its contract: after i turns the first i frames behind the head stand a place further up.
use native.Mathlib.Omega.{arith}
use Rattle.std.proofs.Common.{rules}
use Rattle.words.proofs.Laws.{spread_none, bytes_each}
use Rattle.recordbytes.specs.Layout.{frame_width}
use Rattle.recordbytes.specs.Record.{frame_words}
use Rattle.recordchange.proofs.Leaving.{too_many, moves_up, all_moved}
use Rattle.recordchange.proofs.change.leave.Goals as goal

pub returns-then-places-n : goal.returns-then-places-n
returns-then-places-n c = too_many _ _ _ (omega (arith, c.word-n.ensures, c.if-places-n.true))

pub loop-i-init : goal.loop-i-init
loop-i-init c = spread_none frame_words frame_width _ _

pub loop-i-preserved : goal.loop-i-preserved
loop-i-preserved c =
    moves_up c.put_word.new.out _ _ c.loop-i.i c.loop-i.invariant (bytes_each c.put_word.new.out (λ j. search rules)) (omega arith) c.frame_at-f.ensures c.put_frame.ensures

pub returns : goal.returns
returns c =
    all_moved c.args.out.now (bytes_each c.args.out.now (λ j. search rules)) c.args.k c.args.places c.loop-i.i (omega (arith, c.word-n.ensures)) (omega (arith, c.word-n.ensures, c.if-places-n.false)) c.put_word.ensures (omega arith) c.loop-i.invariant
