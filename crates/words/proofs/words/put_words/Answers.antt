-- `words::words::put_words` meets its contract: where all words find room each is put behind the one before it, and else nothing is put.
use mathlib.Core.Path.{sym, refl, ◌∙◌}
use native.Mathlib.Omega.{arith}
use Rattle.std.proofs.lemmas.List.{take_all}
use Rattle.words.proofs.Fitting.{fit_all, none_fits}
use Rattle.words.proofs.Stored.{stored_nothing, put_next}
use Rattle.words.proofs.words.put_words.Goals as goal
use Rattle.words.proofs.words.put_words.Goals.{else-words-places-via-then-words-places+else-k-places, else-words-places-via-else-words-places}

pub loop-i-init : goal.loop-i-init
loop-i-init c = sym (stored_nothing c.args.out.now c.args.k)

pub loop-i-preserved : goal.loop-i-preserved
loop-i-preserved c = put_next c.args.out.now c.args.k c.loop-i.i c.args.words.now (omega arith) c.loop-i-test.true c.loop-i.invariant c.put_word.ensures

pub returns-after-loop-i : goal.returns-after-loop-i
returns-after-loop-i c = fit_all c.args.out.now c.args.k c.args.words.now (omega arith) (c.loop-i.invariant ∙ rw (take_all c.loop-i.i c.args.words.now (omega arith)) refl)

pub returns-else-words-places : goal.returns-else-words-places
returns-else-words-places c =
    elim c.else-words-places.branch [
      | else-words-places-via-then-words-places+else-k-places w ↦ none_fits c.args.out.now c.args.k c.args.words.now (omega arith)
      | else-words-places-via-else-words-places w ↦ none_fits c.args.out.now c.args.k c.args.words.now (omega arith)
    ]
