-- A record in which no row has a frame.
use Prim.Native.Nat.{ℕ, ◌≤◌, ◌<◌}
use mathlib.Core.Bool.{Bool, true, false, cond, ◌&&◌}
use mathlib.Core.List.{List, []}
use mathlib.Core.Path.{◌≡◌, refl}
use native.Mathlib.Omega.{arith}
use lib.Dec.{eqb}
use borrow.Author.Tests.{eqb-true, ne_eqb, leb-true}
use Rattle.std.specs.declared.option.Option.{Option}
use Rattle.table.specs.declared.Table.{Table}
use Rattle.table.specs.Limits.{most_rows, class_places}
use Rattle.table.specs.Rows.{Contents, rows_of, contents, in_use}
use Rattle.table.proofs.Laws as table
use Rattle.machine.specs.declared.Frame.{Frame}
use Rattle.machine.specs.declared.Queue.{Queue}
use Rattle.machine.specs.declared.Wire.{Wire}
use Rattle.machine.specs.declared.Wire.TheVariants.{Free, Sending}
use Rattle.machine.specs.State.{Instant, instants_of}
use Rattle.machine.specs.Record.{taken_in}
use Rattle.spacing.specs.Spread.{in_record}
use Rattle.spacing.proofs.Laws.{every, all_places}
use Rattle.notes.specs.Notes.{queues_test}
use Rattle.tally.specs.Rows.{instants_test, held_test, held_if, no_row_on, no_row_frames, row_frames_test}

nothing_on : (w : Wire) (a b : Queue class_places) → no_row_frames w a.count b.count ≡ true → (a.count ≡ 0) × (b.count ≡ 0) × (no_row_on w ≡ true)
unfolding no_row_frames
nothing_on w a b e =
    let p = table.and-true (eqb a.count 0 && eqb b.count 0) (no_row_on w) e in
    let q = table.and-true (eqb a.count 0) (eqb b.count 0) p.0 in
    (eqb-true a.count 0 q.0, eqb-true b.count 0 q.1, p.1)

none_taken : (w : Wire) (a b : Queue class_places) → a.count ≡ 0 → b.count ≡ 0 → no_row_on w ≡ true → (k : ℕ) → k < most_rows → taken_in k (in_record w a b) ≡ []
none_taken Free a b x y f k h = rw (x, y) refl
none_taken (Sending g left) a b x y f k h = rw (x, y, ne_eqb g.source k (λ z. absurd (omega (arith, leb-true most_rows g.source f)))) refl

none_held : (t : Contents) (limits : List ℕ) (ls : List Instant) (fs : List Frame) (k : ℕ) → taken_in k fs ≡ [] → held_if t limits ls fs k ≡ true
unfolding held_test instants_test
none_held t limits ls fs k e = rw e (either (in_use t k))
  where
    either : (b : Bool) → cond b true true ≡ true
    either true = refl
    either false = refl

none_waits : (t : Contents) (limits : List ℕ) (now : ℕ) (a b : Queue class_places) → a.count ≡ 0 → b.count ≡ 0 → queues_test t limits now a b ≡ true
unfolding queues_test
none_waits t limits now a b x y = rw (x, y) refl

pub quiet : (w : Wire) (a b : Queue class_places) (t : Table) → t.count ≤ most_rows → (limits : List ℕ) (last : List (Option ℕ)) (now : ℕ) → no_row_frames w a.count b.count ≡ true → row_frames_test w a b t limits last now ≡ true
unfolding row_frames_test
quiet w a b t few limits last now e =
    let n = nothing_on w a b e in
    let held = every t.count (held_if (contents t) limits (instants_of (rows_of t) last) (in_record w a b)) (λ k h. none_held (contents t) limits (instants_of (rows_of t) last) (in_record w a b) k (none_taken w a b n.0 n.1 n.2 k (omega (arith, h, few)))) in
    rw (all_places t a b few (omega (arith, n.0)) (omega (arith, n.1)), none_waits (contents t) limits now a b n.0 n.1) held
