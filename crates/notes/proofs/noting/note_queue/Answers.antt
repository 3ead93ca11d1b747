-- `notes::noting::note_queue` meets its contract: at i the frames before i are noted, and those from i on decide the test of all.
use Prim.Native.Nat.{ℕ, ◌≤◌, ◌<◌}
use mathlib.Core.Bool.{Bool, true, false, false≢true}
use mathlib.Core.List.{List}
use mathlib.Core.Path.{◌≡◌, refl, sym, ◌∙◌}
use native.Mathlib.Omega.{arith}
use lib.ListN.{length, get_or, drop}
use Rattle.table.specs.declared.Class.{Class}
use Rattle.table.specs.declared.Table.{Table}
use Rattle.table.specs.Limits.{most_rows}
use Rattle.table.specs.Rows.{no_row, is_there, contents, in_use}
use Rattle.table.proofs.Laws as table
use Rattle.figures.specs.declared.Lane.{Lane}
use Rattle.figures.specs.Lanes.{residence_by}
use Rattle.machine.specs.declared.Frame.{Frame}
use Rattle.machine.specs.Record.{all_of}
use Rattle.machine.proofs.Places.{zero_frame}
use Rattle.frames.specs.Tests.{row_test}
use Rattle.frames.proofs.Laws.{no_row_lem, no_place, by_place, not_used, row_here}
use Rattle.notes.proofs.Turns.{fails_here, passes_here, all_passed, one_more, all_noted, all_apart}
use Rattle.notes.proofs.noting.note_queue.Invariants.{ok}
use Rattle.notes.proofs.noting.note_queue.Goals as goal
use Rattle.notes.proofs.noting.note_queue.Goals.{then-t-k-via-then-t-k, then-t-k-via-else-t-k+then-k-ge-ROWS, then-not-note, else-not-note}

-- one that may not be there breaks the test of all
module _ (c : Class) (t : Table) (ofa ofb : Lane) (now : ℕ) (fs : List Frame) (i : ℕ) (h : i < length fs) (s : all_of (ok c t ofa ofb now) (drop i fs) ≡ all_of (ok c t ofa ofb now) fs) where
  broken : ok c t ofa ofb now (get_or fs i zero_frame) ≡ false → all_of (ok c t ofa ofb now) fs ≡ false
  broken e = sym s ∙ fails_here (ok c t ofa ofb now) fs i h e

  unnamed : in_use (contents t) (get_or fs i zero_frame).source ≡ false → all_of (ok c t ofa ofb now) fs ≡ false
  unnamed e = broken (sym (not_used c t ofa ofb now (get_or fs i zero_frame) e))

-- what its row's test says of it
row_test_lem : (c : Class) (t : Table) (ofa ofb : Lane) (now : ℕ) (f : Frame) → length t.rows ≡ most_rows → f.source < t.count → f.source < most_rows → {r o : Bool} {limit : ℕ} → r ≡ is_there (get_or t.rows f.source no_row) → r ≡ true → limit ≡ residence_by ofa ofb (get_or t.rows f.source no_row) → o ≡ row_test c f (get_or t.rows f.source no_row) limit now → o ≡ ok c t ofa ofb now f
row_test_lem c t ofa ofb now f long below inside e there q p = row_here c t ofa ofb now f long below inside (by_place t f.source long below inside e ∙ there) q p

pub returns-then-t-k : goal.returns-then-t-k
returns-then-t-k c =
    let none : in_use (contents c.args.t) (get_or c.args.frames.now c.loop-f.f-index zero_frame).source ≡ false =
    elim c.then-t-k.branch [
      | then-t-k-via-then-t-k w ↦ no_row_lem c.args.t _ w.if-t-k.true
      | then-t-k-via-else-t-k+then-k-ge-ROWS w ↦ no_place c.args.t _ (table.places c.args.t _ c.well_formed.1.1.1.0) w.if-k-ge-ROWS.true
    ] in
    unnamed c.args.class c.args.t c.args.lanes.a c.args.lanes.b c.args.clock c.args.frames.now c.loop-f.f-index c.loop-f-test.true c.loop-f.invariant.1 none

pub returns-then-not-is_there : goal.returns-then-not-is_there
returns-then-not-is_there c =
    unnamed c.args.class c.args.t c.args.lanes.a c.args.lanes.b c.args.clock c.args.frames.now c.loop-f.f-index c.loop-f-test.true c.loop-f.invariant.1 (by_place c.args.t _ (table.places c.args.t _ c.well_formed.1.1.1.0) c.if-t-k.false c.if-k-ge-ROWS.false c.is_there.ensures ∙ c.if-not-is_there.true)

pub returns-then-not-row_frame_ok : goal.returns-then-not-row_frame_ok
returns-then-not-row_frame_ok c =
    let fs = c.args.frames.now in
    let i = c.loop-f.f-index in
    broken c.args.class c.args.t c.args.lanes.a c.args.lanes.b c.args.clock fs i c.loop-f-test.true c.loop-f.invariant.1
    (sym (row_test_lem c.args.class c.args.t c.args.lanes.a c.args.lanes.b c.args.clock (get_or fs i zero_frame) (table.places c.args.t _ c.well_formed.1.1.1.0) c.if-t-k.false c.if-k-ge-ROWS.false c.is_there.ensures c.if-not-is_there.false c.residence.ensures c.row_frame_ok.ensures) ∙ c.if-not-row_frame_ok.true)

pub loop-f-preserved : goal.loop-f-preserved
loop-f-preserved c =
    let fs = c.args.frames.now in
    let i = c.loop-f.f-index in
    let up : (c.if-not-note.rising ≡ true) → (c.loop-f.rising ≡ true) × (c.note.result ≡ true) =
    elim c.if-not-note.branch [ then-not-note w ↦ λ q. absurd (false≢true (sym w.rising-is ∙ q)) | else-not-note w ↦ λ q. (sym w.rising-is ∙ q, w.if-not-note.false) ] in (
      omega (arith, c.loop-f-test.true),
      passes_here (ok c.args.class c.args.t c.args.lanes.a c.args.lanes.b c.args.clock) fs i c.loop-f-test.true (sym (row_test_lem c.args.class c.args.t c.args.lanes.a c.args.lanes.b c.args.clock (get_or fs i zero_frame) (table.places c.args.t _ c.well_formed.1.1.1.0) c.if-t-k.false c.if-k-ge-ROWS.false c.is_there.ensures c.if-not-is_there.false c.residence.ensures c.row_frame_ok.ensures) ∙ c.if-not-row_frame_ok.false) ∙ c.loop-f.invariant.1,
      one_more c.args.noted.now fs c.args.t i c.loop-f.noted c.loop-f.rising c.loop-f.invariant.2 {f = get_or fs i zero_frame} c.loop-f-test.true refl c.if-k-ge-ROWS.false c.note.ensures.newest c.note.ensures.counts c.note.ensures.turn up,
    )

pub returns-then-rising : goal.returns-then-rising
returns-then-rising c =
    let fs = c.args.frames.now in
    let i = c.loop-f.f-index in
    let done : length fs ≤ i = c.loop-f-test.false in (
      sym c.loop-f.invariant.1 ∙ all_passed (ok c.args.class c.args.t c.args.lanes.a c.args.lanes.b c.args.clock) fs i done,
      all_noted c.args.noted.now fs c.args.t i c.loop-f.noted c.loop-f.rising c.loop-f.invariant.2 done,
      all_apart c.args.noted.now fs c.args.t i c.loop-f.noted c.loop-f.rising c.loop-f.invariant.2 done c.if-rising.true,
    )

pub returns : goal.returns
returns c =
    let fs = c.args.frames.now in
    let i = c.loop-f.f-index in
    let done : length fs ≤ i = c.loop-f-test.false in (
      sym c.loop-f.invariant.1 ∙ all_passed (ok c.args.class c.args.t c.args.lanes.a c.args.lanes.b c.args.clock) fs i done,
      all_noted c.args.noted.now fs c.args.t i c.loop-f.noted c.loop-f.rising c.loop-f.invariant.2 done,
    )
