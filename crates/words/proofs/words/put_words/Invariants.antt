-- `words::words::put_words` meets its contract. The loop's invariant: the words so far are stored.
use mathlib.Core.Path.{◌≡◌}
use lib.ListN.{take}
use Rattle.words.specs.Words.{stored}
use Rattle.words.proofs.words.put_words.Given as goal

abbrev pub invariant-loop-i : goal.invariant-loop-i
invariant-loop-i l = l.out ≡ stored l.initial.out l.k (take l.i l.words)
