-- `callbytes::calls::zeros_from` meets its contract: the words looked at are those of the definition.
use Prim.Native.Nat.{◌-◌}
use mathlib.Core.Path.{◌≡◌, refl, ◌∙◌}
use lib.Dec.{eqb}
use Rattle.std.proofs.Common.{rules, tests}
use Rattle.std.specs.List.{list_all, range_with_len}
use Rattle.std.proofs.lemmas.Iterator.{YieldsList-from_range}
use Rattle.std.proofs.lemmas.Iterator.Search.{all_from_yields_List}
use Rattle.words.specs.Words.{word_at}
use Rattle.callbytes.proofs.Named.{zeros_all}
use Rattle.callbytes.proofs.calls.zeros_from.Goals as goal

pub returns : goal.returns
returns c =
    let s = c.args.s.now in
    let k = c.args.k in
    let all : c.all.result ≡ list_all (λ i. eqb (word_at s i) 0) (range_with_len k (9 - k)) =
    all_from_yields_List (λ i. eqb (word_at s i) 0) _ _ c.all.result c.all.ensures.ran (YieldsList-from_range k 9 (9 - k) refl refl) (λ x b q h. search (rules, tests)) in
    all ∙ zeros_all s k (9 - k)
