-- `notes::noting::note_all` meets its contract: the frame on the wire is noted, and behind it those of A's queue, and behind them those of B's.
use Prim.Native.Nat.{ℕ}
use mathlib.Core.Bool.{Bool, true, false, ◌&&◌}
use mathlib.Core.List.{List, ◌++◌, append_assoc}
use mathlib.Core.Path.{◌≡◌, refl}
use native.Mathlib.Omega.{arith}
use lib.ListN.{take, length-take}
use Rattle.table.specs.Limits.{class_places}
use Rattle.table.specs.declared.Class.{Class}
use Rattle.table.specs.declared.Class.TheVariants.{A, B}
use Rattle.table.specs.declared.Table.{Table}
use Rattle.table.specs.Rows.{contents}
use Rattle.figures.specs.declared.Lane.{Lane}
use Rattle.machine.specs.declared.Frame.{Frame}
use Rattle.machine.specs.declared.Queue.{Queue}
use Rattle.machine.specs.declared.Wire.{Wire}
use Rattle.machine.specs.Record.{all_of, sending}
use Rattle.frames.specs.Tests.{frame_test, limits_by}
use Rattle.spacing.specs.Spread.{in_record}
use Rattle.notes.specs.declared.Noted.{Noted}
use Rattle.notes.specs.declared.Order.{Order}
use Rattle.notes.specs.declared.Order.TheVariants.{Broken, Rising, Mixed}
use Rattle.notes.specs.Notes.{newests, counts, queues_test, Notes, Apart, NotedBy}
use Rattle.notes.specs.Steps.{Behind, QueueNoted}
use Rattle.notes.proofs.Notes.{one_apart, is_order, no_order}
use Rattle.notes.proofs.Turns.{few_first}
use Rattle.notes.proofs.noting.note_all.Goals as goal

module _ (w : Wire) (a b : Queue class_places) (t : Table) (ofa ofb : Lane) (now : ℕ) (sent first last : List Noted) (on : Notes (sending w) (newests sent) (counts sent)) where
  abbrev tested : Bool
  tested = queues_test (contents t) (limits_by ofa ofb t.rows) now a b

  abbrev all_ok : Class → List Frame → Bool
  all_ok c fs = all_of (frame_test c (contents t) (limits_by ofa ofb t.rows) now) fs

  abbrev of_a : Order → Type 0
  of_a o = QueueNoted A (take a.count a.frames) t ofa ofb now sent first o

  abbrev of_b : Order → Type 0
  of_b o = QueueNoted B (take b.count b.frames) t ofa ofb now first last o

  by_parts : {x y : Bool} → all_ok A (take a.count a.frames) ≡ x → all_ok B (take b.count b.frames) ≡ y → tested ≡ (x && y)
  unfolding queues_test
  by_parts e f = rw (e, f) refl

  first_fails : (o : Order) → o ≡ Broken → of_a o → tested ≡ false
  first_fails o e n = by_parts (rw e at n) refl

  -- A's frames behind the one on the wire
  first_noted : (o : Order) → (o ≡ Broken → ⊥) → of_a o → (all_ok A (take a.count a.frames) ≡ true) × Notes (sending w ++ take a.count a.frames) (newests first) (counts first)
  first_noted Broken d n = absurd (d refl)
  first_noted Rising d n = (n.0, n.1 (sending w) on)
  first_noted Mixed d n = (n.0, n.1 (sending w) on)

  module _ (o : Order) (d : o ≡ Broken → ⊥) (n : of_a o) where
    abbrev front : List Frame
    front = sending w ++ take a.count a.frames

    both : Behind (take b.count b.frames) first last → Notes (in_record w a b) (newests last) (counts last)
    both m = rw (append_assoc (sending w) (take a.count a.frames) (take b.count b.frames)) at (m front (first_noted o d n).1)

    otherwise : (q : Order) → (q ≡ Rising → ⊥) → of_b q → NotedBy w a b t ofa ofb now (newests last) (counts last) q
    otherwise Broken e m = by_parts (first_noted o d n).0 m
    otherwise Rising e m = absurd (e refl)
    otherwise Mixed e m = (by_parts (first_noted o d n).0 m.0, both m.1)

  rises : (o : Order) → (o ≡ Broken → ⊥) → of_a o → of_b Rising → NotedBy w a b t ofa ofb now (newests last) (counts last) o
  rises Broken d n m = absurd (d refl)
  rises Rising d n m =
      let apart : Apart t ((sending w ++ take a.count a.frames) ++ take b.count b.frames) = m.2 (sending w ++ take a.count a.frames) (n.1 (sending w) on) (n.2 (sending w) on (one_apart t w)) in
      (by_parts n.0 m.0, both Rising d n m.1, rw (append_assoc (sending w) (take a.count a.frames) (take b.count b.frames)) at apart)
  rises Mixed d n m = (by_parts n.0 m.0, both Mixed d n m.1)

pub returns-then-eq : goal.returns-then-eq
returns-then-eq c =
    first_fails c.args.p.now.wire c.args.p.now.a c.args.p.now.b c.args.p.now.table c.args.lanes.a c.args.lanes.b c.args.p.now.clock c.note_wire.new.noted c.note_queue-first.new.noted c.note_queue-first.new.noted c.note_wire.ensures c.note_queue-first.result (is_order _ Broken c.eq.ensures c.if-eq.true) c.note_queue-first.ensures

pub note_queue-second-requires : goal.note_queue-second-requires
note_queue-second-requires c =
    record {
      few = few_first c.args.p.now.wire c.args.p.now.a c.requires.count_le_class_places.0 (first_noted c.args.p.now.wire c.args.p.now.a c.args.p.now.b c.args.p.now.table c.args.lanes.a c.args.lanes.b c.args.p.now.clock c.note_wire.new.noted c.note_queue-first.new.noted c.note_queue-first.new.noted c.note_wire.ensures c.note_queue-first.result (no_order _ Broken c.eq.ensures c.if-eq.false) c.note_queue-first.ensures).1;
      length_le_class_places = rw length-take (omega (arith, c.requires.count_le_class_places.1));
    }

pub returns-then-eq-2 : goal.returns-then-eq-2
returns-then-eq-2 c =
    rises c.args.p.now.wire c.args.p.now.a c.args.p.now.b c.args.p.now.table c.args.lanes.a c.args.lanes.b c.args.p.now.clock c.note_wire.new.noted c.note_queue-first.new.noted c.note_queue-second.new.noted c.note_wire.ensures c.note_queue-first.result (no_order _ Broken c.eq.ensures c.if-eq.false) c.note_queue-first.ensures (rw (is_order _ Rising c.eq-2.ensures c.if-eq-2.true) at c.note_queue-second.ensures)

pub returns-else-eq-2 : goal.returns-else-eq-2
returns-else-eq-2 c =
    otherwise c.args.p.now.wire c.args.p.now.a c.args.p.now.b c.args.p.now.table c.args.lanes.a c.args.lanes.b c.args.p.now.clock c.note_wire.new.noted c.note_queue-first.new.noted c.note_queue-second.new.noted c.note_wire.ensures c.note_queue-first.result (no_order _ Broken c.eq.ensures c.if-eq.false) c.note_queue-first.ensures c.note_queue-second.result (no_order _ Rising c.eq-2.ensures c.if-eq-2.false) c.note_queue-second.ensures
