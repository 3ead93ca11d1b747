-- `advances::advances::judge` meets its contract: each test that fails is the check that decides, and past them the run on the record's numbers is the machine's progress.
use Prim.Native.Nat.{ℕ, ◌+◌, ◌≤◌, ◌<◌}
use mathlib.Core.Bool.{true}
use mathlib.Core.Path.{◌≡◌, sym, ◌∙◌}
use native.Mathlib.Omega.{arith}
use mir.Syntax.{w64}
use mir.Facts.{to_z-of_z}
use Rattle.machine.specs.declared.Denial.TheVariants.{Broken, TooManySteps, PastLastClock}
use Rattle.machine.specs.Limits.{last_clock, most_steps}
use Rattle.machine.specs.State.{view}
use Rattle.machine.specs.Record.{sound}
use Rattle.machine.proofs.FromSound.{clauses}
use Rattle.bytetime.specs.declared.Hot.{Hot}
use Rattle.bytetime.specs.declared.Fixed.{Fixed}
use Rattle.bytetime.specs.declared.Ran.{Ran}
use Rattle.bytetime.specs.Bytes.{run_hot, steps_of}
use Rattle.bytetime.proofs.Laws.{passed_most}
use Rattle.advances.proofs.Judged.{advance_broken, too_many_steps, past_last_clock, advance_passes, clock_of_lem, advance_refused, advance_accepted}
use Rattle.advances.proofs.Begins.{steps_most, same_run}
use Rattle.advances.proofs.Sent.{made}
use Rattle.advances.proofs.advances.judge.Goals as goal
use Rattle.advances.proofs.advances.judge.Goals.{Else-not-whole, Else-n-p}

passed-within : (n : ℕ) (h : Hot) (x : Fixed) {r : Ran} → r ≡ run_hot (steps_of n h x) h x → r.passed ≤ n
passed-within n h x e = rw e (omega (arith, passed_most (steps_of n h x) h x, steps_most n h x))

-- past the record check
sound_here : (c : Else-not-whole) → c.args.whole ≡ sound (view c.args.p) → sound (view c.args.p) ≡ true
sound_here c w = sym w ∙ c.if-not-whole.false

-- past all checks
in_time : (c : Else-n-p) → c.args.p.clock + c.args.n ≤ last_clock
in_time c = omega arith

pub returns-then-not-whole : goal.returns-then-not-whole
returns-then-not-whole c w = advance_refused _ _ Broken (advance_broken _ _ (sym w ∙ c.if-not-whole.true))

pub returns-then-n-gt-MOST_STEPS : goal.returns-then-n-gt-MOST_STEPS
returns-then-n-gt-MOST_STEPS c w = advance_refused _ _ TooManySteps (too_many_steps _ _ (sound_here (goal.at.returns-then-n-gt-MOST_STEPS c).Else-not-whole w) (omega (arith, c.if-n-gt-MOST_STEPS.true)))

pub returns-then-n-p : goal.returns-then-n-p
returns-then-n-p c w =
    let past : last_clock < c.args.p.clock + c.args.n = omega arith in
    advance_refused _ _ PastLastClock (past_last_clock _ _ (sound_here (goal.at.returns-then-n-p c).Else-not-whole w) (omega (arith, c.if-n-gt-MOST_STEPS.false)) (rw clock_of_lem past))

pub overflow_add-result : goal.overflow_add-result
overflow_add-result c =
    record { fits = omega (arith, in_time (goal.at.overflow_add-result c).Else-n-p, passed-within _ _ _ c.run-ran.ensures) }

pub returns : goal.returns
returns c w =
    let p = c.args.p in
    let ok = sound_here (goal.at.returns c).Else-not-whole w in
    let few : c.args.n ≤ most_steps = omega (arith, c.if-n-gt-MOST_STEPS.false) in
    let same = same_run (view p) (clauses (view p) ok) c.args.n few c.hot.ensures c.fixed.ensures c.run-ran.ensures in
    advance_accepted p _ c.run-ran.result ok (advance_passes _ _ ok few (rw clock_of_lem (in_time (goal.at.returns c).Else-n-p))) same (made p c.run-ran.result c.frame_of-f.ensures c.ended.ensures c.wire_now.ensures c.left.ensures (to_z-of_z {w = w64} (record { sfits = omega arith })) (to_z-of_z {w = w64} (record { sfits = omega arith })))
