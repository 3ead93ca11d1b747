-- `spacing::rows::all_spread` meets its contract: a count above its places fails, and each row is tested.
use Prim.Native.Nat.{ℕ, ◌+◌, ◌-◌, ◌≤◌, ◌<◌}
use mathlib.Core.Bool.{Bool}
use mathlib.Core.List.{List, ◌++◌}
use mathlib.Core.Path.{◌≡◌, refl, ◌∙◌, ap}
use native.Mathlib.Omega.{arith}
use lib.ListN.{length, get_or, take}
use lib.Seq.{get_or-take}
use Rattle.std.specs.List.{slice_range}
use Rattle.std.proofs.Common.{rules}
use Rattle.std.proofs.lemmas.Iterator.{YieldsList-from_slice}
use Rattle.std.proofs.lemmas.Iterator.Consumers.{YieldsList-from_enumerate}
use Rattle.std.proofs.lemmas.Iterator.Search.{all_from_yields_List}
use Rattle.table.specs.declared.Class.TheVariants.{A, B}
use Rattle.table.specs.declared.Row.{Row}
use Rattle.table.specs.declared.Table.{Table}
use Rattle.table.specs.Limits.{most_rows, class_places}
use Rattle.table.specs.Wire.{period_of}
use Rattle.table.specs.Rows.{no_row, contents}
use Rattle.table.proofs.Laws as table
use Rattle.machine.specs.declared.Frame.{Frame}
use Rattle.machine.specs.declared.Queue.{Queue}
use Rattle.machine.specs.declared.Wire.{Wire}
use Rattle.machine.specs.Record.{taken_in, sending, spaced, up_to}
use Rattle.machine.proofs.Places.{queue_places}
use Rattle.spacing.specs.Spread.{in_record, spaced_test}
use Rattle.spacing.proofs.Numbers.{all_numbers, no_row_lem, no_place, all_places}
use Rattle.spacing.proofs.rows.all_spread.Goals as goal

-- the part of an array that is in use
front : {X : Type 0} (xs ys : List X) (n : ℕ) → ys ≡ slice_range xs 0 n → ys ≡ take n xs
front xs ys n e = let z : n - 0 ≡ n = omega arith in e ∙ rw z refl

row-spaced : (w : Wire) (a b : Queue class_places) (t : Table) (rs : List Row) (fa fb : List Frame) → rs ≡ take t.count t.rows → fa ≡ take a.count a.frames → fb ≡ take b.count b.frames → length t.rows ≡ most_rows → t.count ≤ most_rows → (k : ℕ) → k < t.count → {r : Bool} {p : ℕ} → p ≡ period_of (get_or rs k no_row) → r ≡ spaced p (taken_in k (sending w ++ (fa ++ fb))) → r ≡ spaced_test (contents t) (in_record w a b) k
unfolding spaced_test
row-spaced w a b t rs fa fb er ea eb long few k h e q =
    let row : get_or rs k no_row ≡ get_or t.rows k no_row = rw er (get_or-take t.count t.rows k no_row h) in
    rw (table.row_at_lem t long few k h, ← row, ← e, ← ea, ← eb) q

pub returns-in_default : goal.returns-in_default
returns-in_default c =
    let more : most_rows < c.args.t.count = omega (arith, c.in_default.ensures.lookup, table.places c.args.t _ c.well_formed.1.1.1.0) in
    rw (no_row_lem c.args.t c.args.a c.args.b more) refl

pub returns-in_default-get : goal.returns-in_default-get
returns-in_default-get c =
    rw (no_place c.args.t c.args.a c.args.b A (omega (arith, c.in_default-get.ensures.lookup, queue_places c.args.a _ c.well_formed.1.0))) refl

pub returns-in_default-get-2 : goal.returns-in_default-get-2
returns-in_default-get-2 c =
    rw (no_place c.args.t c.args.a c.args.b B (omega (arith, c.in_default-get-2.ensures.lookup, queue_places c.args.b _ c.well_formed.1.1.0))) refl

pub returns : goal.returns
returns c =
    let rows = c.in-Some.rows.now in
    let test : ℕ × Row → Bool = λ p. spaced (period_of p.1) (taken_in p.0 (sending c.args.w ++ (c.in-Some-get.ina.now ++ c.in-Some-get-2.inb.now))) in
    let ok = spaced_test (contents c.args.t) (in_record c.args.w c.args.a c.args.b) in
    let all : length rows ≡ c.args.t.count = omega (arith, c.in-Some.ensures.lookup.0.3) in
    let ra : c.args.a.count ≤ class_places = omega (arith, c.in-Some-get.ensures.lookup.0.1, queue_places c.args.a _ c.well_formed.1.0) in
    let rb : c.args.b.count ≤ class_places = omega (arith, c.in-Some-get-2.ensures.lookup.0.1, queue_places c.args.b _ c.well_formed.1.1.0) in
    let rt : c.args.t.count ≤ most_rows = omega (arith, c.in-Some.ensures.lookup.0.1, table.places c.args.t _ c.well_formed.1.1.1.0) in
    let long = table.places c.args.t _ c.well_formed.1.1.1.0 in
    let each : (k : ℕ) → k < length rows → test (0 + k, get_or rows k no_row) ≡ ok k =
    λ k h. let z : 0 + k ≡ k = omega arith in rw z (row-spaced c.args.w c.args.a c.args.b c.args.t rows _ _ (front _ _ _ c.in-Some.ensures.lookup.0.2) (front _ _ _ c.in-Some-get.ensures.lookup.0.2) (front _ _ _ c.in-Some-get-2.ensures.lookup.0.2) long rt k (omega (arith, all)) refl refl) in
    rw (all_places c.args.t c.args.a c.args.b rt ra rb) (all_from_yields_List test _ _ _ c.all.ensures.ran (YieldsList-from_enumerate (YieldsList-from_slice rows cc) cc) (λ x b q k. search rules) ∙ all_numbers test no_row 0 rows ok each ∙ ap (λ n. up_to n ok) all)
