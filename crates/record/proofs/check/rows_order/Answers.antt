-- `record::check::rows_order` meets its contract: a queue that counts more frames than it has places fails, and else the view's queues are the places in use.
use Prim.Native.Nat.{ℕ, ◌≤◌, ◌<◌}
use mathlib.Core.Bool.{Bool, true, false, ◌&&◌, and-false, not}
use mathlib.Core.List.{List, ◌++◌}
use mathlib.Core.Path.{◌≡◌, refl, sym, ◌∙◌, ap}
use lib.Dec.{leb}
use lib.ListN.{length, take}
use Rattle.table.specs.declared.Class.{Class}
use Rattle.table.specs.declared.Class.TheVariants.{A, B}
use Rattle.table.specs.Limits.{most_rows}
use Rattle.table.specs.Rows.{Contents, rows_of, contents}
use Rattle.table.proofs.Laws as table
use Rattle.figures.specs.declared.Lane.{Lane}
use Rattle.machine.specs.declared.Frame.{Frame}
use Rattle.machine.specs.declared.Port.{Port}
use Rattle.machine.specs.Limits.{class_places}
use Rattle.machine.specs.State.{waiting, instants_of, view}
use Rattle.machine.specs.Record.{all_of, none_after, sending, each_row, rows_taken}
use Rattle.machine.proofs.Places.{Places, waits, too_many}
use Rattle.frames.specs.Tests.{limits_by, frame_test}
use Rattle.frames.proofs.Laws.{no_frame_lem}
use Rattle.spacing.specs.Spread.{spread_test}
use Rattle.notes.specs.declared.Order.{Order}
use Rattle.notes.specs.declared.Order.TheVariants.{Broken, Rising, Mixed}
use Rattle.notes.specs.Notes.{queues_test}
use Rattle.tally.specs.Rows.{held_test, row_frames_test, TestBy}
use Rattle.spacing.proofs.Laws.{queue_of, no_place, all_places}
use Rattle.tally.proofs.Laws.{quiet}
use Rattle.record.specs.Steps.{waiting_test, instants_by, Bounded, rows_test}
use Rattle.table.proofs.Laws.{fails, holds}
use borrow.Author.Tests.{leb-true, leb-false}
use Rattle.record.proofs.check.rows_order.Goals.{After-no_row_frame}
use Rattle.record.proofs.check.rows_order.Goals as goal

abbrev past : Port → Bool
past p = none_after p.clock (instants_of (rows_of p.table) p.last)

abbrev frames_ok : List ℕ → Port → Bool
frames_ok limits p = row_frames_test p.wire p.a p.b p.table limits p.last p.clock

-- frames without a place pass no test
no-queue : (k : Class) (t : Contents) (limits : List ℕ) (now n : ℕ) (xs : List Frame) → length xs ≡ class_places → class_places < n → all_of (frame_test k t limits now) (waiting n xs) ≡ false
no-queue k t limits now n xs e h = sym (too_many (frame_test k t limits now) n xs (no_frame_lem k t limits now) (rw e h))

module _ (limits : List ℕ) (p : Port) (places : Places p) (few : p.table.count ≤ most_rows) where
  -- what is asked of the rows' frames, by the record's view
  abbrev viewed : Bool
  viewed = waiting_test limits (view p) && each_row (held_test (view p).table limits (view p).last (sending (view p).wire ++ ((view p).a ++ (view p).b))) (view p)

  in_places_lem : p.a.count ≤ class_places → p.b.count ≤ class_places → viewed ≡ frames_ok limits p
  unfolding view waiting_test row_frames_test queues_test
  in_places_lem a b =
      rw (
        table.rows_length p.table,
        waits p.a.count p.a.frames (rw places.a a),
        waits p.b.count p.b.frames (rw places.b b),
        all_places p.table p.a p.b few a b,
      )
      refl

  above : (k : Class) → class_places < (queue_of k p.a p.b).count → viewed ≡ frames_ok limits p
  unfolding view waiting_test row_frames_test
  above A h = rw (no-queue A (contents p.table) limits p.clock p.a.count p.a.frames places.a h, no_place p.table p.a p.b A h) refl
  above B h = rw (no-queue B (contents p.table) limits p.clock p.b.count p.b.frames places.b h, no_place p.table p.a p.b B h, and-false) refl

  same : viewed ≡ frames_ok limits p
  same = go (leb p.a.count class_places) (leb p.b.count class_places) refl refl
    where
      go : (x y : Bool) → leb p.a.count class_places ≡ x → leb p.b.count class_places ≡ y → viewed ≡ frames_ok limits p
      go true true e f = in_places_lem (leb-true _ _ e) (leb-true _ _ f)
      go true false e f = above B (leb-false _ _ f)
      go false y e f = above A (leb-false _ _ e)

  is-past : rows_taken (view p) ≡ past p
  unfolding view rows_taken
  is-past = refl

  by_parts : rows_test limits (view p) ≡ (past p && frames_ok limits p)
  unfolding rows_test
  by_parts = rw (is-past, same) refl

  late : past p ≡ false → rows_test limits (view p) ≡ false
  late e = rw (by_parts, e) refl

  quiet-rows : past p ≡ true → frames_ok limits p ≡ true → rows_test limits (view p) ≡ true
  quiet-rows e q = rw (by_parts, e, q) refl

-- what the order of the frames says of them, it says of the rows
by_order : (a b : Lane) (p : Port) → Places p → p.table.count ≤ most_rows → past p ≡ true → (o : Order) → TestBy (frames_ok (limits_by a b p.table.rows) p) (spread_test p.wire p.a p.b p.table) o → TestBy (rows_test (limits_by a b p.table.rows) (view p)) (spread_test p.wire p.a p.b p.table) o
by_order a b p places few e Broken told = rw (by_parts (limits_by a b p.table.rows) p places few, e, told) refl
by_order a b p places few e Rising told = rw (by_parts (limits_by a b p.table.rows) p places few, e, told) refl
by_order a b p places few e Mixed told = rw (by_parts (limits_by a b p.table.rows) p places few, e, told) refl

-- the instants by the bounds are the record's
by-past : (p : Port) (made : List ℕ) → Bounded p made → {r : Bool} → r ≡ none_after p.clock (instants_by (take p.table.count made) p.last) → r ≡ past p
unfolding view
by-past p made b e = rw (← b.last) e

-- no instant is after the clock
on-time : (c : After-no_row_frame) → past c.args.p.now ≡ true
on-time c = holds (by-past c.args.p.now _ c.requires.bounded c.instants_ok.ensures) (ap not c.if-not-instants_ok.false)

pub instants_ok-requires : goal.instants_ok-requires
instants_ok-requires c = record { rows_le_most_rows = c.requires.count_le_most_rows; rows_in_bounds = c.requires.bounded.long }

pub returns-then-not-instants_ok : goal.returns-then-not-instants_ok
returns-then-not-instants_ok c =
    late _ c.args.p.now c.requires.places c.requires.count_le_most_rows (fails (by-past c.args.p.now _ c.requires.bounded c.instants_ok.ensures) (ap not c.if-not-instants_ok.true))

pub returns-then-no_row_frame : goal.returns-then-no_row_frame
returns-then-no_row_frame c =
    let p = c.args.p.now in
    quiet-rows _ p c.requires.places c.requires.count_le_most_rows (on-time (goal.at.returns-then-no_row_frame c).After-no_row_frame) (quiet p.wire p.a p.b p.table c.requires.count_le_most_rows _ p.last p.clock (sym c.no_row_frame.ensures ∙ c.if-no_row_frame.true))

pub returns : goal.returns
returns c =
    by_order c.args.lanes.a c.args.lanes.b c.args.p.now c.requires.places c.requires.count_le_most_rows (on-time (goal.at.returns c).After-no_row_frame) c.order.result c.order.ensures
