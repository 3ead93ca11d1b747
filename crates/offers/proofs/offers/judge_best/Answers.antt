-- `offers::offers::judge_best` meets its contract: each test that fails is the check that decides, and what passes finds a place.
use mathlib.Core.Bool.{Bool, true}
use mathlib.Core.Path.{◌≡◌, sym, ◌∙◌}
use native.Mathlib.Omega.{arith}
use Rattle.machine.specs.declared.Denial.TheVariants.{Broken, Payload, BestEffortFull}
use Rattle.offers.proofs.Judged.{best_broken, best_too_large, best_full, best_count, header_of_lem, best_refused, best_accepted}
use Rattle.offers.proofs.offers.judge_best.Goals as goal

-- past the record check
sound_here : {w b : Bool} → w ≡ b → w ≡ true → b ≡ true
sound_here e h = sym e ∙ h

pub returns-then-not-whole : goal.returns-then-not-whole
returns-then-not-whole c w = best_refused _ _ Broken (best_broken _ _ (sym w ∙ c.if-not-whole.true))

pub returns-then-most-payload : goal.returns-then-most-payload
returns-then-most-payload c w = best_refused _ _ Payload (best_too_large _ _ (sound_here w c.if-not-whole.false) (rw header_of_lem (omega arith)))

pub returns-then-waits-ge-BEST_PLACES : goal.returns-then-waits-ge-BEST_PLACES
returns-then-waits-ge-BEST_PLACES c w = best_refused _ _ BestEffortFull (best_full _ _ (sound_here w c.if-not-whole.false) (rw header_of_lem (omega arith)) (rw best_count (omega arith)))

pub returns : goal.returns
returns c w = best_accepted _ (sound_here w c.if-not-whole.false) _ c.wire_size.result (omega arith) (omega arith) c.wire_size.ensures.value c.taken.ensures
