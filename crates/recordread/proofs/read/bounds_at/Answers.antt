-- `recordread::read::bounds_at` meets its contract: after i turns the first i are in their places.
use mathlib.Core.Path.{◌≡◌, refl}
use native.Mathlib.Omega.{arith}
use Rattle.words.specs.Words.{word_at}
use Rattle.table.specs.Limits.{most_rows}
use Rattle.recordbytes.specs.Layout.{bounds_start, bound_width}
use Rattle.recordread.proofs.Named.{none_gathered, one_more}
use Rattle.recordread.proofs.read.bounds_at.Goals as goal

pub loop-i-init : goal.loop-i-init
loop-i-init c = none_gathered 0 most_rows (word_at c.args.s.now) bound_width bounds_start refl

pub loop-i-preserved : goal.loop-i-preserved
loop-i-preserved c =
    one_more 0 most_rows (word_at c.args.s.now) bound_width bounds_start c.loop-i.i (omega arith) c.loop-i.invariant c.word.ensures

pub returns : goal.returns
returns c =
    let all : c.loop-i.i ≡ c.args.n = omega arith in
    rw all at c.loop-i.invariant
