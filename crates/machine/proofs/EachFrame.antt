-- No byte-time makes a frame or changes one: what holds of every frame in a port holds of every frame afterwards, and of the frame that is reported.
use Rattle.std.specs.Prelude.{Option, Some, None}
use Prim.Native.Nat.{ℕ, zero, suc}
use mathlib.Core.Bool.{Bool, true, false, cond}
use mathlib.Core.List.{List, [], ◌∷◌}
use lib.Dec.{eqb}
use Rattle.table.specs.declared.Class.TheVariants.{A, B}
use Rattle.table.specs.Limits.{left_at_report}
use Rattle.machine.specs.declared.Frame.{Frame}
use Rattle.machine.specs.declared.Wire.{Wire}
use Rattle.machine.specs.declared.Wire.TheVariants.{Free, Sending}
use Rattle.machine.specs.State.{State}
use Rattle.machine.specs.Time.{ready, head_out, behind_head, send_of, send_best, start_on, start, wire_after, reported_in, byte_time, ends_in, Progress, further, progress}
use Rattle.machine.proofs.OneClass.{All}

module _ (P : Frame → Type 0) where
  abbrev pub OnWire : Wire → Type 0
  OnWire Free = Unit {0}
  OnWire (Sending f l) = P f

  abbrev pub OfEnded : Option Frame → Type 0
  OfEnded None = Unit {0}
  OfEnded (Some f) = P f

  pub record EachFrame (s : State) : Type 0 where
    pub a : All P s.a
    pub b : All P s.b
    pub best : All P s.best
    pub wire : OnWire s.wire

  head_has : (q : List Frame) → All P q → OnWire (head_out q)
  head_has [] p = tt
  head_has (f ∷ q) p = p.0

  rest_has : (q : List Frame) → All P q → All P (behind_head q)
  rest_has [] p = tt
  rest_has (f ∷ q) p = p.1

  start_each : (s : State) → EachFrame s → EachFrame (start s)
  unfolding start
  start_each s p = by_wire s.wire
    where
      on_free_lem : (x y : Bool) → EachFrame (cond x (send_of A s) (cond y (send_of B s) (send_best s)))
      on_free_lem true y = record { a = rest_has s.a p.a; b = p.b; best = p.best; wire = head_has s.a p.a }
      on_free_lem false true = record { a = p.a; b = rest_has s.b p.b; best = p.best; wire = head_has s.b p.b }
      on_free_lem false false = record { a = p.a; b = p.b; best = rest_has s.best p.best; wire = head_has s.best p.best }

      by_wire : (w : Wire) → EachFrame (start_on w s)
      by_wire Free = on_free_lem (ready s.credita s.a) (ready s.creditb s.b)
      by_wire (Sending f l) = p

  wire_each : (w : Wire) → OnWire w → OnWire (wire_after w)
  wire_each Free p = tt
  wire_each (Sending f zero) p = tt
  wire_each (Sending f (suc zero)) p = tt
  wire_each (Sending f (suc (suc l))) p = p

  byte_each : (s : State) → EachFrame s → EachFrame (byte_time s)
  unfolding byte_time
  byte_each s p =
      let q = start_each s p in
      record { a = q.a; b = q.b; best = q.best; wire = wire_each (start s).wire q.wire }

  reported_each : (w : Wire) → OnWire w → OfEnded (reported_in w)
  unfolding reported_in
  reported_each Free p = tt
  reported_each (Sending f l) p = go (eqb l (suc left_at_report))
    where
      go : (b : Bool) → OfEnded (cond b (Some f) None)
      go true = p
      go false = tt

  ends_each : (s : State) → EachFrame s → OfEnded (ends_in s)
  unfolding ends_in
  ends_each s p = reported_each (start s).wire (start_each s p).wire

  further_each : (p : Progress) (e : Option Frame) → EachFrame p.state × OfEnded p.ended → EachFrame (further e p).state × OfEnded (further e p).ended
  further_each p (Some f) q = q
  further_each p None q = (byte_each p.state q.0, ends_each p.state q.0)

  pub progress_each : (s : State) → EachFrame s → (n : ℕ) → EachFrame (progress n s).state × OfEnded (progress n s).ended
  unfolding progress
  progress_each s p zero = (p, tt)
  progress_each s p (suc n) = further_each (progress n s) (progress n s).ended (progress_each s p n)
