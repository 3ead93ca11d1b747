-- `tally::rows::counts_ok` meets its contract: all rows below i pass.
use Prim.Native.Nat.{ℕ, ◌<◌}
use mathlib.Core.Bool.{Bool, true, cond, not}
use mathlib.Core.List.{List}
use mathlib.Core.Path.{◌≡◌, refl, sym, ap}
use native.Mathlib.Omega.{arith}
use lib.ListN.{length, get_or, take, length-take}
use lib.Seq.{get_or-take}
use Rattle.std.specs.Prelude.{Option, None}
use Rattle.table.specs.declared.Table.{Table}
use Rattle.table.specs.Wire.{period_of}
use Rattle.table.specs.Rows.{no_row, is_there}
use Rattle.table.proofs.Laws as table
use Rattle.table.proofs.Laws.{fails, holds}
use Rattle.figures.specs.declared.Lane.{Lane}
use Rattle.figures.specs.Lanes.{residence_by}
use Rattle.machine.specs.State.{instant_of}
use Rattle.notes.specs.declared.Noted.{Noted}
use Rattle.notes.specs.Notes.{newests, counts}
use Rattle.notes.proofs.Laws.{zero_noted, newest_at, count_at}
use Rattle.tally.specs.Steps.{count_test, counts_test}
use Rattle.spacing.proofs.Laws.{fails_at, up_to_next}
use Rattle.tally.proofs.rows.counts_ok.Goals.{After-count_ok}
use Rattle.tally.proofs.rows.counts_ok.Goals as goal

-- a number that the loop reaches
below : (t : Table) {k : ℕ} → k < length (take t.count t.rows) → k < t.count
below t h = omega (arith, length-take t.count t.rows, h)

within : (t : Table) (noted : List Noted) {k : ℕ} → length t.rows ≡ 32 → length noted ≡ 32 → k < length (take t.count t.rows) → k < length noted
within t noted e f h = omega (arith, length-take t.count t.rows, h)

-- the limit that was worked out is the row's residence
by-residence : (t : Table) (ofa ofb : Lane) (last : List (Option ℕ)) (noted : List Noted) (k : ℕ) {r : Bool} {limit : ℕ} → k < t.count → k < length noted → limit ≡ residence_by ofa ofb (get_or (take t.count t.rows) k no_row) → r ≡ cond (is_there (get_or (take t.count t.rows) k no_row)) (count_test (get_or noted k zero_noted).count (get_or noted k zero_noted).newest (instant_of (get_or last k None)) limit (period_of (get_or (take t.count t.rows) k no_row))) true → r ≡ counts_test t ofa ofb last (newests noted) (counts noted) k
by-residence t ofa ofb last noted k h g e q = rw (newest_at noted k g, count_at noted k g, ← get_or-take t.count t.rows k no_row h, ← e) q

-- a turn of the loop: what was told of the row is the test of the row
told : (c : After-count_ok) → c.count_ok.result ≡ counts_test c.args.t c.args.lanes.a c.args.lanes.b c.args.last.now (newests c.args.noted.now) (counts c.args.noted.now) c.loop-i.i
told c =
    by-residence c.args.t c.args.lanes.a c.args.lanes.b c.args.last.now c.args.noted.now _ (below c.args.t c.loop-i-test.true) (within c.args.t c.args.noted.now (table.places c.args.t _ c.well_formed.1.0) c.told-noted c.loop-i-test.true) c.residence-limit.ensures c.count_ok.ensures

pub loop-i-init : goal.loop-i-init
loop-i-init c = (omega arith, refl)

pub count_ok-requires : goal.count_ok-requires
count_ok-requires c =
    let h = below c.args.t c.loop-i-test.true in
    rw (count_at c.args.noted.now c.loop-i.i (within c.args.t c.args.noted.now (table.places c.args.t _ c.well_formed.1.0) c.told-noted c.loop-i-test.true)) at (c.requires.few c.loop-i.i (omega (arith, h, c.requires.count_le_most_rows)))

pub returns-then-not-count_ok : goal.returns-then-not-count_ok
returns-then-not-count_ok c =
    record { counted = fails_at c.args.t.count (counts_test c.args.t c.args.lanes.a c.args.lanes.b c.args.last.now (newests c.args.noted.now) (counts c.args.noted.now)) c.loop-i.i (below c.args.t c.loop-i-test.true) (fails (told (goal.at.returns-then-not-count_ok c).After-count_ok) (ap not c.if-not-count_ok.true)); places = table.places c.args.t _ c.well_formed.1.0 }

pub loop-i-preserved : goal.loop-i-preserved
loop-i-preserved c =
    let h = below c.args.t c.loop-i-test.true in
    (omega (arith, h), up_to_next c.loop-i.i (counts_test c.args.t c.args.lanes.a c.args.lanes.b c.args.last.now (newests c.args.noted.now) (counts c.args.noted.now)) (holds (told (goal.at.loop-i-preserved c).After-count_ok) (ap not c.if-not-count_ok.false)) c.loop-i.invariant.1)

pub returns : goal.returns
returns c =
    let e : c.loop-i.i ≡ c.args.t.count = omega (arith, c.loop-i.invariant.0, c.loop-i-test.false, length-take c.args.t.count c.args.t.rows, table.places c.args.t _ c.well_formed.1.0, c.requires.count_le_most_rows) in
    record { counted = sym (rw e at c.loop-i.invariant.1); places = table.places c.args.t _ c.well_formed.1.0 }
