-- `runs::input::answers` meets its contract. The loop's invariant: the answers to the first i bytes stand in the buffer, and the bytes that are left decide the rest.
use native.Mathlib.Omega.{arith}
use Rattle.runs.proofs.Runs.{same_sized, none_yet, ends, goes_on, stops, answers}
use Rattle.runs.proofs.input.answers.Goals as goal
use Rattle.runs.proofs.input.answers.Goals.{in-More, in-Whole}

pub loop-b-init : goal.loop-b-init
loop-b-init c = none_yet _ _ _ _ c.requires

pub shape_of-out-in-Other : goal.shape_of-out-in-Other
shape_of-out-in-Other c = same_sized c.loop-b.invariant

pub returns-in-Other : goal.returns-in-Other
returns-in-Other c =
    stops _ _ _ _ c.requires c.loop-b.invariant c.step.result (omega arith) c.step.ensures c.in-Other.is

pub loop-b-preserved : goal.loop-b-preserved
loop-b-preserved c =
    elim c.match-step.branch [
      | in-More w ↦
          rw (w.out-is, w.port-is, w.line-is, w.at-is) (goes_on _ _ _ _ c.requires c.loop-b.invariant c.step.result (omega arith) c.step.ensures _ w.in-More.is)
      | in-Whole w ↦
          rw (w.out-is, w.port-is, w.line-is, w.at-is) (answers _ _ _ _ c.requires c.loop-b.invariant c.step.result (omega arith) c.step.ensures _ w.make-m.result w.in-Whole.is w.make-m.ensures w.put_answer-at.ensures.value w.put_answer-at.ensures.out_after)
    ]

pub shape_of-out : goal.shape_of-out
shape_of-out c = same_sized c.loop-b.invariant

pub returns : goal.returns
returns c = ends _ _ _ _ c.requires c.loop-b.invariant (omega arith)
