-- `frames::tests::sending_ok` meets its contract, by whether the frame names a row.
use Prim.Native.Nat.{ℕ, ◌≤◌, ◌<◌}
use mathlib.Core.Bool.{Bool, true, false}
use mathlib.Core.List.{List}
use mathlib.Core.Path.{◌≡◌, refl, ◌∙◌}
use lib.ListN.{length, get_or}
use borrow.Author.Tests.{le-leb, lt-leb}
use Rattle.table.specs.declared.Table.{Table}
use Rattle.table.specs.Wire.{wire_size}
use Rattle.table.specs.Limits.{most_rows}
use Rattle.table.specs.Rows.{no_row, contents, in_use}
use Rattle.table.proofs.Laws as table
use Rattle.planner.proofs.Laws as law
use Rattle.machine.specs.declared.Frame.{Frame}
use Rattle.frames.proofs.Naming.{no_row_lem, no_place, by_place, row_here}
use Rattle.frames.specs.Tests.{frame_test, best_test, sending_test}
use Rattle.frames.proofs.tests.sending_ok.Goals as goal
use Rattle.frames.proofs.tests.sending_ok.Goals.{then-left-lt1-via-then-left-lt1, then-left-lt1-via-else-left-lt1+then-f-left, then-k-t+then-k-lt-ROWS+else-is_there, else-k-t, else-k-t-via-then-k-t+else-k-lt-ROWS, else-k-t-via-else-k-t}

module _ (t : Table) (limits : List ℕ) (now : ℕ) (f : Frame) (left : ℕ) where
  none_left : left < 1 → false ≡ sending_test (contents t) limits now f left
  unfolding sending_test
  none_left h = rw (lt-leb 1 left h) refl

  too-much-left : 1 ≤ left → f.size < left → false ≡ sending_test (contents t) limits now f left
  unfolding sending_test
  too-much-left h g = rw (le-leb 1 left h, lt-leb left f.size g) refl

  module _ (some : 1 ≤ left) (rest : left ≤ f.size) where
    of_row : length t.rows ≡ most_rows → f.source < t.count → f.source < most_rows → in_use (contents t) f.source ≡ true → {r : Bool} → r ≡ frame_test (get_or t.rows f.source no_row).class (contents t) limits now f → r ≡ sending_test (contents t) limits now f left
    unfolding sending_test
    of_row long h g u e = rw (le-leb 1 left some, le-leb left f.size rest, u, table.row_in_place t long f.source h g) e

    of_best : in_use (contents t) f.source ≡ false → {most : ℕ} {r : Bool} → most ≡ wire_size t.header.payload → r ≡ best_test most now f → r ≡ sending_test (contents t) limits now f left
    unfolding sending_test
    of_best u m e = rw (law.best_is (contents t), le-leb 1 left some, le-leb left f.size rest, u, ← m) e

pub returns-then-left-lt1 : goal.returns-then-left-lt1
returns-then-left-lt1 c =
    elim c.then-left-lt1.branch [
      | then-left-lt1-via-then-left-lt1 w ↦ none_left _ _ _ _ _ w.if-left-lt1.true
      | then-left-lt1-via-else-left-lt1+then-f-left w ↦ too-much-left _ _ _ _ _ w.if-left-lt1.false w.if-f-left.true
    ]

pub returns-then-is_there : goal.returns-then-is_there
returns-then-is_there c =
    let long = table.places c.args.t _ c.well_formed.1.1.0 in
    let u = by_place c.args.t c.args.f.source long c.if-k-t.true c.if-k-lt-ROWS.true c.is_there.ensures ∙ c.if-is_there.true in
    of_row c.args.t _ c.args.clock c.args.f c.args.left c.if-left-lt1.false c.if-f-left.false long c.if-k-t.true c.if-k-lt-ROWS.true u (row_here _ c.args.t c.args.lanes.a c.args.lanes.b _ c.args.f long c.if-k-t.true c.if-k-lt-ROWS.true u c.residence.ensures c.row_frame_ok.ensures)

pub returns : goal.returns
returns c =
    let long = table.places c.args.t _ c.well_formed.1.1.0 in
    let u : in_use (contents c.args.t) c.args.f.source ≡ false =
    elim c.if-k-t.branch [
      | then-k-t+then-k-lt-ROWS+else-is_there w ↦ by_place c.args.t c.args.f.source long w.if-k-t.true w.if-k-lt-ROWS.true w.is_there.ensures ∙ w.if-is_there.false
      | else-k-t w ↦
          elim w.else-k-t.branch [
            | else-k-t-via-then-k-t+else-k-lt-ROWS v ↦ no_place c.args.t c.args.f.source long v.if-k-lt-ROWS.false
            | else-k-t-via-else-k-t v ↦ no_row_lem c.args.t c.args.f.source v.if-k-t.false
          ]
    ] in
    of_best c.args.t _ c.args.clock c.args.f c.args.left c.if-left-lt1.false c.if-f-left.false u c.wire_size.ensures.value c.best_frame_ok.ensures
