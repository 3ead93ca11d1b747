-- The places of a record, and its view part by part: what the crates above share of the port's types.
use Prim.Native.Nat.{ℕ, suc, ◌-◌, ◌≤◌, ◌<◌}
use mathlib.Core.Bool.{Bool, true, false, ◌&&◌}
use mathlib.Core.List.{List, [], ◌∷◌, ◌++◌, map, append-nil}
use mathlib.Core.Path.{◌≡◌, refl, sym, ◌∙◌, ap}
use native.Mathlib.Omega.{arith}
use lib.ListN.{length, get_or, take, drop, replicate, length-map, length-take, length-append, length-replicate, get_or-map}
use lib.Seq.{drop-cons, get_or-take, take_at}
use mir.Val.{Val}
use denote.Laws.{Is}
use denote.Param.{number}
use denote.Struct.Declared as Declared
use Rattle.std.specs.declared.option.Option.{Option}
use Rattle.std.specs.declared.option.Option.TheVariants.{None}
use Rattle.table.specs.declared.Row.{Row}
use Rattle.table.specs.declared.Table.{Table}
use Rattle.table.specs.Rows.{no_row, is_there, rows_of, contents}
use Rattle.table.proofs.Laws as table
use Rattle.planner.specs.Bound.{bounds_of}
use Rattle.machine.specs.declared.Frame.{Frame}
use Rattle.machine.specs.declared.Queue.{Queue}
use Rattle.machine.specs.declared.Port.{Port}
use Rattle.machine.specs.State.{never, no_frame, waiting, instant_of, instants_of, kept_of, Places}
use Rattle.machine.proofs.Instants.{for_length, for_at}
-- the record itself, and what an unused place may hold
pub use Rattle.machine.specs.State.{zero_frame, Places}
-- a byte-time is one on the clock
pub use Rattle.machine.proofs.Advances.{byte_clock}
use Rattle.machine.specs.Record.{all_of}
use Rattle.machine.specs.contracts.Queue as queue
use Rattle.machine.specs.contracts.Port as port

-- what owning a queue or a port record tells of its places
pub queue_places : {n : ℕ} (q : Queue n) (vs : List Val) → Is (Declared.row (queue.the_type (number n))) q vs → length q.frames ≡ n
queue_places q vs p = p.1.1.1.0.1.0.1

pub port_places : (p : Port) (vs : List Val) → Is (Declared.row port.the_type) p vs → Places p
port_places p vs e =
    record {
      rows = e.1.1.0.1.1.1.1.0.1.0.1;
      a = e.1.1.1.1.1.1.0.1.1.1.0.1.0.1;
      b = e.1.1.1.1.1.1.1.0.1.1.1.0.1.0.1;
      best = e.1.1.1.1.1.1.1.1.0.1.1.1.0.1.0.1;
      last = e.1.1.1.1.1.1.1.1.1.0.1.0.1;
      bounds = e.1.1.1.1.1.1.1.1.1.1.0.1.0.1;
    }

-- ---- the frames that wait
pub waits : (n : ℕ) (xs : List Frame) → n ≤ length xs → waiting n xs ≡ take n xs
waits n xs h = let e : n - length xs ≡ 0 = omega arith in rw (e, append-nil) refl

pub waiting_length : (n : ℕ) (xs : List Frame) → length (waiting n xs) ≡ n
waiting_length n xs = rw (length-append, length-take, length-replicate) (omega arith)

-- one element after the other of those in use
pub next : {A : Type 0} (d : A) (xs : List A) (n i : ℕ) → i < n → n ≤ length xs → drop i (take n xs) ≡ get_or xs i d ∷ drop (suc i) (take n xs)
next {A} d xs n i h l =
    let inside : i < length (take n xs) = rw length-take (omega arith) in
    drop-cons (take n xs) i d inside ∙ ap (λ (x : A). x ∷ drop (suc i) (take n xs)) (get_or-take n xs i d h)

-- a count above the places stands for frames that pass no test
and-false : (b : Bool) → (b && false) ≡ false
and-false true = refl
and-false false = refl

all_append : (ok : Frame → Bool) (xs ys : List Frame) → all_of ok ys ≡ false → all_of ok (xs ++ ys) ≡ false
all_append ok [] ys e = e
all_append ok (f ∷ xs) ys e = rw (all_append ok xs ys e) (and-false (ok f))

pub too_many : (ok : Frame → Bool) (n : ℕ) (xs : List Frame) → ok no_frame ≡ false → length xs < n → false ≡ all_of ok (waiting n xs)
too_many ok n xs e h =
    let m : n - length xs ≡ suc (n - length xs - 1) = omega arith in
    sym (all_append ok (take n xs) (replicate (n - length xs) no_frame) (rw (m, e) refl))

-- the instants of a table's numbers, and the bounds that are kept of them
pub instants_length : (rs : List Row) (last : List (Option ℕ)) → length (instants_of rs last) ≡ length rs
instants_length rs last = for_length rs (map instant_of last)

pub instant_at_lem : (rs : List Row) (last : List (Option ℕ)) (k : ℕ) → is_there (get_or rs k no_row) ≡ true → get_or (instants_of rs last) k never ≡ instant_of (get_or last k None)
instant_at_lem rs last k e = for_at rs (map instant_of last) k e ∙ get_or-map instant_of last k None

pub kept_few : (n : ℕ) (bs : List ℕ) → n ≤ length bs → kept_of n bs ≡ take n bs
unfolding kept_of
kept_few n bs h = let e : n - length bs ≡ 0 = omega arith in rw (e, append-nil) refl

-- bounds that stand in the first of some places
pub worked_out : (t : Table) (out rest : List ℕ) → out ≡ bounds_of (contents t) ++ rest → (t.count ≤ length out) × (take t.count out ≡ bounds_of (contents t))
unfolding bounds_of
worked_out t out rest e =
    let long : length (bounds_of (contents t)) ≡ t.count = length-map (rows_of t) _ ∙ table.rows_length t in
    (rw (e, length-append) (omega (arith, long)), rw e (take_at (bounds_of (contents t)) rest t.count long))
