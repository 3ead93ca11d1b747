-- `frames::tests::best_ok` meets its contract: where the count has its places all frames that wait are tested, and otherwise those without a place fail.
use Rattle.std.proofs.Common.{◌≡◌, ◌<◌, ◌≤◌, length, take, sym, ◌∙◌, ap, arith, rules}
use Rattle.std.proofs.lemmas.Iterator.{YieldsList-from_slice}
use Rattle.std.proofs.lemmas.Iterator.Search.{all_from_yields_List}
use Rattle.machine.proofs.Places.{waits, too_many}
use Rattle.machine.specs.Record.{all_of}
use Rattle.frames.specs.Tests.{best_test}
use Rattle.frames.proofs.Walk.{all_of_list}
use Rattle.frames.proofs.Naming.{no_best}
use Rattle.frames.proofs.tests.best_ok.Goals as goal

pub returns-in-None : goal.returns-in-None
returns-in-None c =
    let more : length c.args.q.frames < c.args.q.count = omega (arith, c.in-None.ensures.lookup) in
    too_many (best_test c.args.most c.args.clock) c.args.q.count c.args.q.frames (no_best _ _) more

pub returns-in-Some : goal.returns-in-Some
returns-in-Some c =
    let ok = best_test c.args.most c.args.clock in
    let xs = c.in-Some.frames.now in
    let n = c.args.q.count in
    let few : n ≤ length c.args.q.frames = c.in-Some.ensures.lookup.0.1 in
    let e : xs ≡ take n c.args.q.frames = grind (arith, c.in-Some.ensures.lookup) in
    let r = all_from_yields_List ok _ _ _ c.all.ensures.ran (YieldsList-from_slice xs cc) (λ x b q k. search rules) in
    r ∙ sym (all_of_list ok xs) ∙ ap (all_of ok) (e ∙ sym (waits n c.args.q.frames few))
