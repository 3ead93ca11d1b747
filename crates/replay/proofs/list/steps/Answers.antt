-- `replay::list::steps` meets its contract: at i the port is the machine's after the first i calls, and their answers stand in the buffer.
use Prim.Native.Nat.{◌*◌}
use mathlib.Core.Path.{◌∙◌, refl, sym}
use native.Mathlib.Omega.{arith}
use Rattle.callbytes.specs.Calls.{answer_size}
use Rattle.replay.specs.List.{count_of}
use Rattle.replay.proofs.Listing.{none_missing, called_at, room, same_size, begins, goes_on, all_done}
use Rattle.replay.proofs.list.steps.Goals as goal
use Rattle.replay.proofs.list.steps.Goals.{in-Some, in_default}

pub loop-i-init : goal.loop-i-init
loop-i-init c = (refl, λ t e. begins t _ _ _ e)

pub loop-i-preserved : goal.loop-i-preserved
loop-i-preserved c =
    elim c.match-asked_at.branch [
      | in-Some w ↦
          let same = called_at c.args.calls.now c.loop-i.i w.in-Some.asked c.asked_at.ensures w.in-Some.is in
          let put = rw same at w.step.ensures.answer in
          let fits = room c.loop-i.out c.loop-i.i (count_of c.args.calls.now) c.loop-i-test.true (rw c.loop-i.invariant.0 c.requires.room) in
          rw (w.out-is, w.p-is) (
            same_size c.loop-i.out (answer_size * c.loop-i.i) _ w.step.new.out fits put ∙ c.loop-i.invariant.0,
            λ t e. goes_on t c.args.calls.now c.args.out.now c.loop-i.i c.loop-i.p w.step.new.p _ c.loop-i.out w.step.new.out fits (c.loop-i.invariant.1 t e) refl (rw same at w.step.ensures.port) put,
          )
      | in_default w ↦ absurd (none_missing c.args.calls.now _ c.loop-i.i c.requires.readable c.loop-i-test.true (sym c.asked_at.ensures ∙ w.in_default.is))
    ]

pub returns : goal.returns
returns c =
    λ t e. all_done t c.args.calls.now c.args.out.now c.loop-i.i c.loop-i.p c.loop-i.out (omega (arith, c.loop-i-test.false, c.loop-i.auto.i-end)) (c.loop-i.invariant.1 t e)
