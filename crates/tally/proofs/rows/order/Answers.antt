-- `tally::rows::order` meets its contract: the notes tell of the rows' frames, and of frames in order also that no two are too near each other.
use Prim.Native.Nat.{ℕ, ◌≤◌}
use mathlib.Core.Bool.{Bool, true, false, not, ◌&&◌}
use mathlib.Core.List.{List}
use mathlib.Core.Path.{◌≡◌, refl, ◌∙◌, ap}
use lib.ListN.{length}
use Rattle.std.specs.declared.option.Option.{Option}
use Rattle.table.specs.declared.Class.TheVariants.{A, B}
use Rattle.table.specs.declared.Table.{Table}
use Rattle.table.specs.Limits.{most_rows, class_places}
use Rattle.table.specs.Rows.{contents}
use Rattle.table.proofs.Laws.{fails, holds}
use Rattle.figures.specs.declared.Lane.{Lane}
use Rattle.machine.specs.declared.Queue.{Queue}
use Rattle.machine.specs.declared.Wire.{Wire}
use Rattle.machine.specs.Record.{up_to}
use Rattle.frames.specs.Tests.{limits_by}
use Rattle.notes.specs.declared.Order.{Order}
use Rattle.notes.specs.declared.Order.TheVariants.{Broken, Rising, Mixed}
use Rattle.spacing.specs.Spread.{in_record, in_places, spaced_test, spread_test}
use Rattle.notes.specs.Notes.{queues_test}
use Rattle.tally.specs.Rows.{row_frames_test, TestBy}
use Rattle.notes.specs.Notes.{Notes, Few, NotedBy}
use Rattle.tally.specs.Steps.{counts_test}
use Rattle.spacing.proofs.Laws.{no_row_lem, no_place, all_places}
use Rattle.notes.proofs.Laws.{none_noted, is_order, no_order, few_noted}
use Rattle.tally.proofs.Told.{rows_told, all_apart}
use borrow.Author.Rules.{rules}
use Rattle.tally.proofs.rows.order.Goals.{then-eq-via-then-eq, then-eq-via-else-eq+then-not-counts_ok, then-p-gt-ROWS-via-then-p-gt-ROWS, then-p-gt-ROWS-via-else-p-gt-ROWS+then-p-gt-CLASS_PLACES, then-p-gt-ROWS-via-else-p-gt-ROWS+else-p-gt-CLASS_PLACES+then-p-gt-CLASS_PLACES-2}
use Rattle.tally.proofs.rows.order.Goals as goal

module _ (w : Wire) (a b : Queue class_places) (t : Table) (ofa ofb : Lane) (last : List (Option ℕ)) (now : ℕ) where
  -- all that is asked of the rows' frames
  abbrev asked : Bool
  asked = row_frames_test w a b t (limits_by ofa ofb t.rows) last now

  no-places : in_places t a b ≡ false → asked ≡ false
  unfolding row_frames_test
  no-places e = rw e refl

  module _ (few : t.count ≤ most_rows) (of-a : a.count ≤ class_places) (of_b : b.count ≤ class_places) (newest counts : List ℕ) where
    -- a frame that may not be there
    no_frame_lem : {o : Order} → o ≡ Broken → NotedBy w a b t ofa ofb now newest counts o → asked ≡ false
    unfolding row_frames_test
    no_frame_lem e n = rw (all_places t a b few of-a of_b, rw e at n) refl

    -- what is noted of no broken record has few of each row
    noted-few : (o : Order) → (o ≡ Broken → ⊥) → NotedBy w a b t ofa ofb now newest counts o → Few 255 counts
    noted-few Broken k n = absurd (k refl)
    noted-few Rising k n = few_noted w a b newest counts of-a of_b n.1
    noted-few Mixed k n = few_noted w a b newest counts of-a of_b n.1

    module _ (long : length t.rows ≡ most_rows) where
      -- where each frame may be there, the rows decide
      by_rows : queues_test (contents t) (limits_by ofa ofb t.rows) now a b ≡ true → Notes (in_record w a b) newest counts → asked ≡ (up_to t.count (counts_test t ofa ofb last newest counts) && up_to t.count (spaced_test (contents t) (in_record w a b)))
      unfolding row_frames_test
      by_rows e n = rw (all_places t a b few of-a of_b, e) (rows_told t long few (in_record w a b) ofa ofb last n)

      miscounted : (o : Order) → NotedBy w a b t ofa ofb now newest counts o → {r : Bool} → r ≡ up_to t.count (counts_test t ofa ofb last newest counts) → not r ≡ true → asked ≡ false
      miscounted Broken n e h = no_frame_lem refl n
      miscounted Rising n e h = by_rows n.0 n.1 ∙ rw (fails e h) refl
      miscounted Mixed n e h = by_rows n.0 n.1 ∙ rw (fails e h) refl

      counted : (o : Order) → NotedBy w a b t ofa ofb now newest counts o → {r : Bool} → r ≡ up_to t.count (counts_test t ofa ofb last newest counts) → not r ≡ false → TestBy asked (spread_test w a b t) o
      counted Broken n e h = no_frame_lem refl n
      counted Rising n e h = by_rows n.0 n.1 ∙ rw (holds e h, all_apart t long few (in_record w a b) n.2) refl
      counted Mixed n e h = by_rows n.0 n.1 ∙ rw (holds e h, all_places t a b few of-a of_b) refl

pub returns-then-p-gt-ROWS : goal.returns-then-p-gt-ROWS
returns-then-p-gt-ROWS c =
    let lost : in_places c.args.p.now.table c.args.p.now.a c.args.p.now.b ≡ false =
    elim c.then-p-gt-ROWS.branch [
      | then-p-gt-ROWS-via-then-p-gt-ROWS w ↦ no_row_lem c.args.p.now.table c.args.p.now.a c.args.p.now.b w.if-p-gt-ROWS.true
      | then-p-gt-ROWS-via-else-p-gt-ROWS+then-p-gt-CLASS_PLACES w ↦ no_place c.args.p.now.table c.args.p.now.a c.args.p.now.b A w.if-p-gt-CLASS_PLACES.true
      | then-p-gt-ROWS-via-else-p-gt-ROWS+else-p-gt-CLASS_PLACES+then-p-gt-CLASS_PLACES-2 w ↦ no_place c.args.p.now.table c.args.p.now.a c.args.p.now.b B w.if-p-gt-CLASS_PLACES-2.true
    ] in
    no-places c.args.p.now.wire c.args.p.now.a c.args.p.now.b c.args.p.now.table c.args.lanes.a c.args.lanes.b c.args.p.now.last c.args.p.now.clock lost

pub note_all-found-requires : goal.note_all-found-requires
note_all-found-requires c = record { notes = none_noted; count_le_class_places = search rules }

pub counts_ok-requires : goal.counts_ok-requires
counts_ok-requires c =
    record { count_le_most_rows = c.if-p-gt-ROWS.false; few = noted-few c.args.p.now.wire c.args.p.now.a c.args.p.now.b c.args.p.now.table c.args.lanes.a c.args.lanes.b c.args.p.now.last c.args.p.now.clock c.if-p-gt-ROWS.false c.if-p-gt-CLASS_PLACES.false c.if-p-gt-CLASS_PLACES-2.false _ _ c.note_all-found.result (no_order _ Broken c.eq.ensures c.if-eq.false) c.note_all-found.ensures }

pub returns-then-eq : goal.returns-then-eq
returns-then-eq c =
    elim c.then-eq.branch [
      | then-eq-via-then-eq w ↦ no_frame_lem c.args.p.now.wire c.args.p.now.a c.args.p.now.b c.args.p.now.table c.args.lanes.a c.args.lanes.b c.args.p.now.last c.args.p.now.clock c.if-p-gt-ROWS.false c.if-p-gt-CLASS_PLACES.false c.if-p-gt-CLASS_PLACES-2.false _ _ (is_order _ Broken c.eq.ensures w.if-eq.true) c.note_all-found.ensures
      | then-eq-via-else-eq+then-not-counts_ok w ↦ miscounted c.args.p.now.wire c.args.p.now.a c.args.p.now.b c.args.p.now.table c.args.lanes.a c.args.lanes.b c.args.p.now.last c.args.p.now.clock c.if-p-gt-ROWS.false c.if-p-gt-CLASS_PLACES.false c.if-p-gt-CLASS_PLACES-2.false _ _ w.counts_ok.ensures.places c.note_all-found.result c.note_all-found.ensures w.counts_ok.ensures.counted (ap not w.if-not-counts_ok.true)
    ]

pub returns : goal.returns
returns c =
    counted c.args.p.now.wire c.args.p.now.a c.args.p.now.b c.args.p.now.table c.args.lanes.a c.args.lanes.b c.args.p.now.last c.args.p.now.clock c.if-p-gt-ROWS.false c.if-p-gt-CLASS_PLACES.false c.if-p-gt-CLASS_PLACES-2.false _ _ c.counts_ok.ensures.places c.note_all-found.result c.note_all-found.ensures c.counts_ok.ensures.counted (ap not c.if-not-counts_ok.false)
