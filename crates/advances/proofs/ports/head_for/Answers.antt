-- `advances::ports::head_for` meets its contract, by the sender.
use mathlib.Core.Path.{◌≡◌}
use Rattle.machine.specs.declared.Frame.{Frame}
use Rattle.machine.specs.declared.Port.{Port}
use Rattle.machine.specs.State.{waiting, view}
use Rattle.bytetime.specs.declared.Sender.{Sender}
use Rattle.bytetime.specs.declared.Sender.TheVariants.{ClassA, ClassB, BestEffort}
use Rattle.bytetime.specs.Ports.{head_of, head_for}
use Rattle.advances.proofs.ports.head_for.Goals as goal

module _ (p : Port) {w : Sender} {r : Frame} where
  of-a : w ≡ ClassA → r ≡ head_of (waiting p.a.count p.a.frames) → r ≡ head_for w (view p)
  unfolding view
  of-a e f = rw e f

  of_b : w ≡ ClassB → r ≡ head_of (waiting p.b.count p.b.frames) → r ≡ head_for w (view p)
  unfolding view
  of_b e f = rw e f

  of_best : w ≡ BestEffort → r ≡ head_of (waiting p.best.count p.best.frames) → r ≡ head_for w (view p)
  unfolding view
  of_best e f = rw e f

pub returns-in-ClassA : goal.returns-in-ClassA
returns-in-ClassA c =
    of-a c.args.p c.in-ClassA.is c.head.ensures

pub returns-in-ClassB : goal.returns-in-ClassB
returns-in-ClassB c =
    of_b c.args.p c.in-ClassB.is c.head-in-ClassB.ensures

pub returns-in-BestEffort : goal.returns-in-BestEffort
returns-in-BestEffort c =
    of_best c.args.p c.in-BestEffort.is c.head-in-BestEffort.ensures
