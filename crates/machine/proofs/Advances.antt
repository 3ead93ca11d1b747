-- An advance: byte-times until a frame is reported keep the invariant and report in time.
use Rattle.std.specs.Prelude.{Option, Some, None}
use Prim.Native.Nat.{ℕ, zero, suc, ◌+◌, ◌≤◌, ◌<◌}
use mathlib.Core.Bool.{Bool, true, false, cond}
use mathlib.Core.Path.{◌≡◌, refl, sym, ◌∙◌, ap, subst}
use native.Mathlib.Nat.{add-suc, add-zero}
use native.Mathlib.Omega.{arith}
use Rattle.table.specs.declared.Class.TheVariants.{A, B}
use Rattle.table.specs.Limits.{left_at_report}
use Rattle.table.specs.Rows.{Contents, row_at, InUse}
use Rattle.planner.specs.Bound.{bound}
use Rattle.machine.specs.declared.Frame.{Frame}
use Rattle.machine.specs.declared.Wire.{Wire}
use Rattle.machine.specs.declared.Wire.TheVariants.{Free, Sending}
use Rattle.machine.specs.State.{State}
use Rattle.machine.specs.Time.{ready, send_of, send_best, start_on, start, byte_time, ends_in, Progress, further, progress}
use Rattle.machine.specs.Limits.{last_clock}
use Rattle.machine.proofs.Invariant.{Holds}
use Rattle.machine.proofs.Start.{starts}
use Rattle.machine.proofs.Byte.{byte_keeps, reported_frame, ends_in_time}
use Rattle.machine.proofs.Soundness.{sending_facts}

-- ---- what a start leaves alone
pub record Same (s r : State) : Type 0 where
  pub table : r.table ≡ s.table
  pub clock : r.clock ≡ s.clock
  pub last : r.last ≡ s.last

start_same : (s : State) → Same s (start s)
unfolding start
start_same s = by_wire s.wire
  where
    same : Same s s
    same = record { table = refl; clock = refl; last = refl }

    on_free_lem : (x y : Bool) → Same s (cond x (send_of A s) (cond y (send_of B s) (send_best s)))
    on_free_lem true y = record { table = refl; clock = refl; last = refl }
    on_free_lem false true = record { table = refl; clock = refl; last = refl }
    on_free_lem false false = record { table = refl; clock = refl; last = refl }

    by_wire : (w : Wire) → Same s (start_on w s)
    by_wire Free = on_free_lem (ready s.credita s.a) (ready s.creditb s.b)
    by_wire (Sending f l) = same

-- ---- one byte-time
pub byte_clock : (s : State) → (byte_time s).clock ≡ suc s.clock
unfolding byte_time
byte_clock s = ap suc (start_same s).clock

byte_table : (s : State) → (byte_time s).table ≡ s.table
unfolding byte_time
byte_table s = (start_same s).table

byte_last : (s : State) → (byte_time s).last ≡ s.last
unfolding byte_time
byte_last s = (start_same s).last

byte_holds : (s : State) → Holds s → s.clock < last_clock → Holds (byte_time s)
unfolding byte_time
byte_holds s h l = byte_keeps (start s) h.u (starts s h.u h.inv) (rw (start_same s).clock l)

byte_ends : (s : State) → Holds s → (f : Frame) → ends_in s ≡ Some f → InUse s.table f.source → (byte_time s).clock ≤ f.taken + bound s.table (row_at s.table f.source)
unfolding ends_in
byte_ends s h f e l =
    let st = starts s h.u h.inv in
    let same = start_same s in
    let due = ends_in_time (start s) h.u st.inv f e (rw same.table l) in
    rw (byte_clock s) (rw (same.clock, same.table) at due)

-- the frame that is reported was taken before: a byte of it has passed since
byte_after : (s : State) → Holds s → (f : Frame) → ends_in s ≡ Some f → f.taken < (byte_time s).clock
unfolding ends_in
byte_after s h f e =
    let st = starts s h.u h.inv in
    let facts = sending_facts (start s) h.u st.inv f (suc left_at_report) (reported_frame (start s).wire f e) in
    rw (byte_clock s) (omega (arith, facts.2, (start_same s).clock))

-- ---- an advance: no more byte-times pass than it asks for
further_most : (n : ℕ) (p : Progress) (e : Option Frame) → p.passed ≤ n → (further e p).passed ≤ suc n
further_most n p (Some f) h = omega arith
further_most n p None h = omega arith

pub passed_most : (n : ℕ) (s : State) → (progress n s).passed ≤ n
unfolding progress
passed_most zero s = omega arith
passed_most (suc n) s = further_most n (progress n s) (progress n s).ended (passed_most n s)

pub record Reached (s : State) (p : Progress) : Type 0 where
  pub holds : Holds p.state
  pub table : p.state.table ≡ s.table
  pub last : p.state.last ≡ s.last
  pub clock : p.state.clock ≡ s.clock + p.passed
  pub in_time : (f : Frame) → p.ended ≡ Some f → InUse s.table f.source → p.state.clock ≤ f.taken + bound s.table (row_at s.table f.source)
  pub taken_before : (f : Frame) → p.ended ≡ Some f → f.taken < p.state.clock

go_on : (s : State) (n : ℕ) (p : Progress) (e : Option Frame) → s.clock + suc n ≤ last_clock → p.passed ≤ n → Reached s p → Reached s (further e p)
go_on s n p (Some f) l m r = r
go_on s n p None l m r =
    record {
      holds = byte_holds p.state r.holds (omega (arith, r.clock));
      table = byte_table p.state ∙ r.table;
      last = byte_last p.state ∙ r.last;
      clock = byte_clock p.state ∙ ap suc r.clock ∙ sym (add-suc s.clock p.passed);
      in_time = λ f e h. subst (λ (t : Contents). (byte_time p.state).clock ≤ f.taken + bound t (row_at t f.source)) r.table (byte_ends p.state r.holds f e (rw r.table h));
      taken_before = byte_after p.state r.holds;
    }

pub advances : (s : State) (n : ℕ) → Holds s → s.clock + n ≤ last_clock → Reached s (progress n s)
unfolding progress
advances s zero h l =
    record { holds = h; table = refl; last = refl; clock = sym (add-zero s.clock); in_time = λ f e k. absurd (no_report e); taken_before = λ f e. absurd (no_report e) }
  where
    no_report : {f : Frame} → None ≡ Some f → ⊥
    no_report e = let z : ◌≡◌ {A = ℕ} 0 1 = cc in omega arith
advances s (suc n) h l = go_on s n (progress n s) (progress n s).ended l (passed_most n s) (advances s n h (omega arith))
