-- What byte-times come to, by the queue whose head went out.
use Rattle.std.specs.Prelude.{Option, Some, None}
use Prim.Native.Nat.{◌+◌}
use mathlib.Core.Bool.{Bool, true, false, cond}
use mathlib.Core.Path.{◌≡◌, refl}
use lib.IntN.{ℤ}
use Rattle.machine.specs.declared.Frame.{Frame}
use Rattle.machine.specs.declared.Wire.{Wire}
use Rattle.machine.specs.declared.Port.{Port}
use Rattle.machine.specs.declared.Change.{Change}
use Rattle.machine.specs.declared.Effect.{Effect}
use Rattle.machine.specs.State.{view}
use Rattle.machine.specs.Effects.{carried_out}
use Rattle.bytetime.specs.declared.Sender.{Sender}
use Rattle.bytetime.specs.declared.Sender.TheVariants.{Nobody, ClassA, ClassB, BestEffort}
use Rattle.bytetime.specs.declared.Ran.{Ran}
use Rattle.bytetime.specs.Ports.{frame_of, wire_by, after_run, ended_by}
use Rattle.advances.specs.Steps.{left_by}

module _ (p : Port) (ran : Ran) where
  -- the effect of a run
  abbrev pub ran_effect : Effect
  ran_effect =
      record {
        passed = Some (record { count = ran.passed; ended = ended_by (view p) ran });
        clock = p.clock + ran.passed;
        credita = ran.hot.credita;
        creditb = ran.hot.creditb;
        wire = wire_by ran.hot.sender (frame_of (view p) ran.hot) ran.hot.left;
        change = left_by ran.hot.moved ran.hot.sender;
      }

  -- as the code makes it, part by part
  pub made : {f : Frame} {x : Option Frame} {w : Wire} {c : Option Change} {ca cb : ℤ} → f ≡ frame_of (view p) ran.hot → x ≡ cond ran.ended (Some f) None → w ≡ wire_by ran.hot.sender f ran.hot.left → c ≡ left_by ran.hot.moved ran.hot.sender → ca ≡ ran.hot.credita → cb ≡ ran.hot.creditb → record { passed = Some (record { count = ran.passed; ended = x }); clock = p.clock + ran.passed; credita = ca; creditb = cb; wire = w; change = c } ≡ ran_effect
  made ef ex ew ec ea eb = rw (ex, ew, ec, ea, eb, ef) refl

  -- carried out, it is the port after the run
  pub sent : carried_out ran_effect (view p) ≡ after_run (view p) ran
  unfolding view after_run
  sent = by_case ran.hot.moved ran.hot.sender refl refl
    where
      by_case : (m : Bool) (w : Sender) → ran.hot.moved ≡ m → ran.hot.sender ≡ w → carried_out ran_effect (view p) ≡ after_run (view p) ran
      by_case false w em ew = rw em refl
      by_case true Nobody em ew = rw (em, ew) refl
      by_case true ClassA em ew = rw (em, ew) refl
      by_case true ClassB em ew = rw (em, ew) refl
      by_case true BestEffort em ew = rw (em, ew) refl
