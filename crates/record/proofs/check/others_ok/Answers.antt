-- `record::check::others_ok` meets its contract: a queue without a frame needs no test.
use Prim.Native.Nat.{ℕ, ◌-◌, ◌≤◌}
use mathlib.Core.Bool.{Bool, true, false, ◌&&◌}
use mathlib.Core.List.{List}
use mathlib.Core.Path.{◌≡◌, refl, sym, ◌∙◌, ap}
use native.Mathlib.Omega.{arith}
use lib.ListN.{length}
use borrow.Author.Tests.{eq-eqb}
use Rattle.table.specs.Wire.{wire_size}
use Rattle.table.specs.Rows.{contents}
use Rattle.planner.proofs.Laws as law
use Rattle.machine.specs.declared.Frame.{Frame}
use Rattle.machine.specs.declared.Port.{Port}
use Rattle.machine.specs.State.{waiting, view}
use Rattle.machine.specs.Record.{all_of, on_sending}
use Rattle.frames.specs.Tests.{limits_by, best_test, sending_test}
use Rattle.record.specs.Steps.{others_test}
use Rattle.record.proofs.check.others_ok.Goals.{Joined-p-eq0, then-p-eq0, else-p-eq0}
use Rattle.record.proofs.check.others_ok.Goals as goal

abbrev best_ok : Port → ℕ → Bool
best_ok p most = all_of (best_test most p.clock) (waiting p.best.count p.best.frames)

abbrev wire_ok : List ℕ → Port → Bool
wire_ok limits p = on_sending (sending_test (contents p.table) limits p.clock) p.wire

-- no frame waits
none : (ok : Frame → Bool) (n : ℕ) (xs : List Frame) → n ≤ 0 → all_of ok (waiting n xs) ≡ true
none ok n xs h =
    let e : n ≡ 0 = omega arith in
    let z : 0 - length xs ≡ 0 = omega arith in
    rw (e, z) refl

module _ (limits : List ℕ) (p : Port) where
  by_parts : others_test limits (view p) ≡ (best_ok p (wire_size p.table.header.payload) && wire_ok limits p)
  unfolding view others_test
  by_parts = rw (law.best_is (contents p.table)) refl

  best-fails : {r : Bool} → r ≡ best_ok p (wire_size p.table.header.payload) → r ≡ false → r ≡ others_test limits (view p)
  best-fails e h = rw (by_parts, sym e ∙ h) h

  by_wire : {r s : Bool} → s ≡ best_ok p (wire_size p.table.header.payload) → s ≡ true → r ≡ wire_ok limits p → r ≡ others_test limits (view p)
  by_wire e h q = rw (by_parts, sym e ∙ h) q

told : (c : Joined-p-eq0) → c.if-p-eq0.value ≡ best_ok c.args.p.now (wire_size c.args.p.now.table.header.payload)
told c =
    elim c.if-p-eq0.branch [
      | then-p-eq0 w ↦ w.value-is ∙ eq-eqb c.args.p.now.best.count 0 w.if-p-eq0.true ∙ sym (none (best_test (wire_size c.args.p.now.table.header.payload) c.args.p.now.clock) c.args.p.now.best.count c.args.p.now.best.frames (omega (arith, w.if-p-eq0.true)))
      | else-p-eq0 w ↦ w.value-is ∙ w.best_ok.ensures ∙ ap (λ m. best_ok c.args.p.now m) w.wire_size.ensures.value
    ]

pub returns-then-best_ok : goal.returns-then-best_ok
returns-then-best_ok c =
    by_wire (limits_by c.args.lanes.a c.args.lanes.b c.args.p.now.table.rows) c.args.p.now (told (goal.at.returns-then-best_ok c).Joined-p-eq0) c.if-best_ok.true c.wire_ok.ensures

pub returns-else-best_ok : goal.returns-else-best_ok
returns-else-best_ok c =
    best-fails (limits_by c.args.lanes.a c.args.lanes.b c.args.p.now.table.rows) c.args.p.now (told (goal.at.returns-else-best_ok c).Joined-p-eq0) c.if-best_ok.false
