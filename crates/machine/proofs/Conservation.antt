-- How often a frame with a given name is in the port and not reported: an offer adds it, a start moves it, a report takes it out, nothing else touches it.
use Rattle.std.specs.Prelude.{Option, Some, None}
use Prim.Native.Nat.{ℕ, zero, suc, ◌+◌, ◌≤◌}
use mathlib.Core.Bool.{Bool, true, false, cond}
use mathlib.Core.List.{List, [], ◌∷◌, ◌++◌}
use mathlib.Core.Path.{◌≡◌, refl, ap}
use native.Mathlib.Omega.{arith}
use lib.Dec.{ltb, eqb}
use borrow.Author.Tests.{ltb-true, ltb-false, lt-ltb, le-ltb, eqb-true, eqb-false}
use Rattle.table.specs.declared.Class.{Class}
use Rattle.table.specs.declared.Class.TheVariants.{A, B}
use Rattle.table.specs.Limits.{least_size, left_at_report}
use Rattle.table.specs.Rows.{row_at}
use Rattle.machine.specs.declared.Frame.{Frame}
use Rattle.machine.specs.declared.Wire.{Wire}
use Rattle.machine.specs.declared.Wire.TheVariants.{Free, Sending}
use Rattle.machine.specs.State.{State}
use Rattle.machine.specs.Time.{ready, head_out, behind_head, send_of, send_best, start_on, start, wire_after, reported_in, byte_time, ends_in, Progress, further, progress}
use Rattle.machine.specs.Run.{count}
use Rattle.machine.proofs.OneClass.{All}
use Rattle.machine.proofs.EachFrame.{EachFrame, progress_each}
use Rattle.machine.specs.Calls.{row_frame, joined, take_row, best_frame, take_best}

-- a frame is at least as large as the smallest
abbrev pub Large : Frame → Type 0
Large f = least_size ≤ f.size

module _ (is : Frame → Bool) where
  abbrev pub among : List Frame → ℕ
  among [] = 0
  among (f ∷ fs) = count (is f) + among fs

  abbrev pub on_wire : Wire → ℕ
  on_wire Free = 0
  on_wire (Sending f l) = cond (ltb left_at_report l) (count (is f)) 0

  abbrev pub ended : Option Frame → ℕ
  ended None = 0
  ended (Some f) = count (is f)

  abbrev pub in_port_lem : State → ℕ
  in_port_lem s = among s.a + among s.b + among s.best + on_wire s.wire

  among_more : (q : List Frame) (f : Frame) → among (q ++ f ∷ []) ≡ among q + count (is f)
  among_more [] f = omega arith
  among_more (g ∷ q) f = omega (arith, among_more q f)

  -- a frame that starts has not been reported
  head_moves : (q : List Frame) → All Large q → among (behind_head q) + on_wire (head_out q) ≡ among q
  head_moves [] p = omega arith
  head_moves (f ∷ q) p = rw (lt-ltb left_at_report f.size (omega (arith, p.0))) (omega arith)

  start_keeps : (s : State) → EachFrame Large s → in_port_lem (start s) ≡ in_port_lem s
  unfolding start
  start_keeps s p = by_wire s.wire refl
    where
      on_free_lem : (x y : Bool) → on_wire s.wire ≡ 0 → in_port_lem (cond x (send_of A s) (cond y (send_of B s) (send_best s))) ≡ in_port_lem s
      on_free_lem true y e = omega (arith, head_moves s.a p.a)
      on_free_lem false true e = omega (arith, head_moves s.b p.b)
      on_free_lem false false e = omega (arith, head_moves s.best p.best)

      by_wire : (w : Wire) → s.wire ≡ w → in_port_lem (start_on w s) ≡ in_port_lem s
      by_wire Free e = on_free_lem (ready s.credita s.a) (ready s.creditb s.b) (ap on_wire e)
      by_wire (Sending f l) e = refl

  -- in the byte-time of its report a frame is counted among the reports and no longer on the wire
  byte_reports : (f : Frame) (l : ℕ) → cond (ltb left_at_report l) (count (is f)) 0 + ended (cond (eqb (suc l) (suc left_at_report)) (Some f) None) ≡ cond (ltb left_at_report (suc l)) (count (is f)) 0
  byte_reports f l = go (ltb left_at_report l) (eqb (suc l) (suc left_at_report)) refl refl
    where
      go : (x y : Bool) → ltb left_at_report l ≡ x → eqb (suc l) (suc left_at_report) ≡ y → cond x (count (is f)) 0 + ended (cond y (Some f) None) ≡ cond (ltb left_at_report (suc l)) (count (is f)) 0
      go true true e q = absurd (omega (arith, ltb-true left_at_report l e, eqb-true (suc l) (suc left_at_report) q))
      go true false e q = rw (lt-ltb left_at_report (suc l) (omega (arith, ltb-true left_at_report l e))) (omega arith)
      go false true e q = rw (lt-ltb left_at_report (suc l) (omega (arith, eqb-true (suc l) (suc left_at_report) q))) (omega arith)
      go false false e q = rw (le-ltb left_at_report (suc l) (short (ltb-false left_at_report l e) (eqb-false (suc l) (suc left_at_report) q))) (omega arith)
        where
          short : l ≤ left_at_report → (suc l ≡ suc left_at_report → ⊥) → suc l ≤ left_at_report
          short h d = omega arith

  wire_keeps : (w : Wire) → on_wire (wire_after w) + ended (reported_in w) ≡ on_wire w
  unfolding reported_in
  wire_keeps Free = omega arith
  wire_keeps (Sending f zero) = refl
  wire_keeps (Sending f (suc zero)) = byte_reports f 0
  wire_keeps (Sending f (suc (suc l))) = byte_reports f (suc l)

  byte_keeps : (s : State) → EachFrame Large s → in_port_lem (byte_time s) + ended (ends_in s) ≡ in_port_lem s
  unfolding byte_time ends_in
  byte_keeps s p = omega (arith, start_keeps s p, wire_keeps (start s).wire)

  further_keeps : (s : State) (p : Progress) (e : Option Frame) → p.ended ≡ e → EachFrame Large p.state → in_port_lem p.state + ended e ≡ in_port_lem s → in_port_lem (further e p).state + ended (further e p).ended ≡ in_port_lem s
  further_keeps s p (Some f) q g h = rw q h
  further_keeps s p None q g h = omega (arith, byte_keeps p.state g)

  pub advance_keeps : (s : State) → EachFrame Large s → (n : ℕ) → in_port_lem (progress n s).state + ended (progress n s).ended ≡ in_port_lem s
  unfolding progress
  advance_keeps s p zero = omega arith
  advance_keeps s p (suc n) = further_keeps s (progress n s) (progress n s).ended refl (progress_each Large s p n).0 (advance_keeps s p n)

  joined_adds : (c : Class) (f : Frame) (s : State) → in_port_lem (joined c f s) ≡ in_port_lem s + count (is f)
  joined_adds A f s = omega (arith, among_more s.a f)
  joined_adds B f s = omega (arith, among_more s.b f)

  pub row_adds : (s : State) (k p : ℕ) → in_port_lem (take_row k p s) ≡ in_port_lem s + count (is (row_frame s k p))
  unfolding take_row
  row_adds s k p = joined_adds (row_at s.table k).class (row_frame s k p) s

  pub best_adds : (s : State) (p : ℕ) → in_port_lem (take_best p s) ≡ in_port_lem s + count (is (best_frame s p))
  unfolding take_best
  best_adds s p = omega (arith, among_more s.best (best_frame s p))
