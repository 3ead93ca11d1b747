-- A port by its parts.
use Rattle.std.specs.Prelude.{ℕ, ◌-◌, ◌≤◌, cond, List, [], ◌∷◌, ◌++◌, map, ◌≡◌, ℤ, pos, take, length, replicate, Option, Some, None}
use Rattle.table.specs.declared.Class.{Class}
use Rattle.table.specs.declared.Class.TheVariants.{A, B}
use Rattle.table.specs.declared.Row.{Row}
use Rattle.table.specs.declared.Table.{Table}
use Rattle.table.specs.Limits.{most_rows}
use Rattle.table.specs.Rows.{is_there, Contents, rows_of, contents}
use Rattle.table.specs.Checks.{Outcome, accepted, refused}
use Rattle.planner.specs.Bound.{bounds_of}
use Rattle.planner.specs.Opening.{opening}
use Rattle.machine.specs.declared.Frame.{Frame}
use Rattle.machine.specs.declared.Wire.{Wire}
use Rattle.machine.specs.declared.Wire.TheVariants.{Free}
use Rattle.machine.specs.declared.Port.{Port}
use Rattle.machine.specs.Limits.{no_mark, class_places, best_places}

-- The instant of a row's last taken frame, or none.
pub data Instant : Type 0 where
  never : Instant
  at : ℕ → Instant

-- A port has its table, the bounds of the table's numbers, a clock, two credits, three first-in-first-out queues (A, B, best effort), the instant of each row's last
-- taken frame, and the wire.
pub record State : Type 0 where
  pub table : Contents
  pub bounds : List ℕ
  pub clock : ℕ
  pub credita : ℤ
  pub creditb : ℤ
  pub a : List Frame
  pub b : List Frame
  pub best : List Frame
  pub last : List Instant
  pub wire : Wire

abbrev pub credit : Class → State → ℤ
credit A s = s.credita
credit B s = s.creditb

abbrev pub queue : Class → State → List Frame
queue A s = s.a
queue B s = s.b

-- A port with another part, and all else as it was.
abbrev pub with_clock : ℕ → State → State
with_clock x s = record { table = s.table; bounds = s.bounds; clock = x; credita = s.credita; creditb = s.creditb; a = s.a; b = s.b; best = s.best; last = s.last; wire = s.wire }

abbrev pub with_credits : ℤ → ℤ → State → State
with_credits x y s = record { table = s.table; bounds = s.bounds; clock = s.clock; credita = x; creditb = y; a = s.a; b = s.b; best = s.best; last = s.last; wire = s.wire }

abbrev pub instead : Class → Class → List Frame → List Frame → List Frame
instead A A x q = x
instead A B x q = q
instead B A x q = q
instead B B x q = x

abbrev pub with_queue : Class → List Frame → State → State
with_queue c x s = record { table = s.table; bounds = s.bounds; clock = s.clock; credita = s.credita; creditb = s.creditb; a = instead c A x s.a; b = instead c B x s.b; best = s.best; last = s.last; wire = s.wire }

abbrev pub with_best : List Frame → State → State
with_best x s = record { table = s.table; bounds = s.bounds; clock = s.clock; credita = s.credita; creditb = s.creditb; a = s.a; b = s.b; best = x; last = s.last; wire = s.wire }

abbrev pub with_last : List Instant → State → State
with_last x s = record { table = s.table; bounds = s.bounds; clock = s.clock; credita = s.credita; creditb = s.creditb; a = s.a; b = s.b; best = s.best; last = x; wire = s.wire }

abbrev pub with_wire : Wire → State → State
with_wire x s = record { table = s.table; bounds = s.bounds; clock = s.clock; credita = s.credita; creditb = s.creditb; a = s.a; b = s.b; best = s.best; last = s.last; wire = x }

-- The bounds of a table that opening accepts; zeros at a refusal.
abbrev pub bounds_if : Outcome → Contents → List ℕ
bounds_if accepted t = bounds_of t
bounds_if (refused n p) t = replicate (length t.rows) 0

-- Fresh: clock and credits 0, no frames, no instants.
unfoldable pub fresh : Contents → State
fresh t =
    record {
      table = t;
      bounds = bounds_if (opening t) t;
      clock = 0;
      credita = pos 0;
      creditb = pos 0;
      a = [];
      b = [];
      best = [];
      last = replicate (length t.rows) never;
      wire = Free;
    }

abbrev pub no_frame : Frame
no_frame = record { source = no_mark; size = 0; taken = 0 }

-- The frames that wait in a queue's places. A count above the places stands for frames that name no row.
abbrev pub waiting : ℕ → List Frame → List Frame
waiting n places = take n places ++ replicate (n - length places) no_frame

abbrev pub instant_of : Option ℕ → Instant
instant_of None = never
instant_of (Some k) = at k

-- The instants of a table's numbers, from those in some places: an empty number has none, nor has one without a place.
unfoldable pub instants_for : List Row → List Instant → List Instant
instants_for [] is = []
instants_for (r ∷ rs) [] = never ∷ instants_for rs []
instants_for (r ∷ rs) (i ∷ is) = cond (is_there r) i never ∷ instants_for rs is

abbrev pub instants_of : List Row → List (Option ℕ) → List Instant
instants_of rs places = instants_for rs (map instant_of places)

-- The kept bounds of as many numbers as a table counts. A number without a place has 0.
unfoldable pub kept_of : ℕ → List ℕ → List ℕ
kept_of n places = take n places ++ replicate (n - length places) 0

-- A table with a row more or less, the bounds worked out afresh, and the instants of the numbers in use.
abbrev pub patched : Contents → List Instant → State → State
patched t is s = record { table = t; bounds = bounds_of t; clock = s.clock; credita = s.credita; creditb = s.creditb; a = s.a; b = s.b; best = s.best; last = instants_for t.rows is; wire = s.wire }

-- A port record by its parts: row and queue places not in use belong to none of them, nor do the instants of numbers that are not in use and the bounds behind the row count.
unfoldable pub view : Port → State
view p =
    record {
      table = contents p.table;
      bounds = kept_of p.table.count p.bounds;
      clock = p.clock;
      credita = p.credita;
      creditb = p.creditb;
      a = waiting p.a.count p.a.frames;
      b = waiting p.b.count p.b.frames;
      best = waiting p.best.count p.best.frames;
      last = instants_of (rows_of p.table) p.last;
      wire = p.wire;
    }

-- A record whose arrays have their places, as every record has that a program holds; and zeros, which an unused place may hold.
pub record Places (p : Port) : Type 0 where
  pub rows : length p.table.rows ≡ most_rows
  pub bounds : length p.bounds ≡ most_rows
  pub a : length p.a.frames ≡ class_places
  pub b : length p.b.frames ≡ class_places
  pub best : length p.best.frames ≡ best_places
  pub last : length p.last ≡ most_rows

abbrev pub zero_frame : Frame
zero_frame = record { source = 0; size = 0; taken = 0 }

-- n places: the things of a list, and z in each place behind them.
unfoldable pub placed : {X : Type 0} → ℕ → X → List X → List X
placed n z xs = take n (xs ++ replicate n z)

abbrev pub last_of : Instant → Option ℕ
last_of never = None
last_of (at k) = Some k

-- The record of a port by its parts, over a table record, with zeros in the places that belong to none.
unfoldable pub port_of : Table → State → Port
port_of t s =
    record {
      table = t;
      bounds = placed most_rows 0 s.bounds;
      clock = s.clock;
      credita = s.credita;
      creditb = s.creditb;
      a = record { count = length s.a; frames = placed class_places zero_frame s.a };
      b = record { count = length s.b; frames = placed class_places zero_frame s.b };
      best = record { count = length s.best; frames = placed best_places zero_frame s.best };
      last = placed most_rows None (map last_of s.last);
      wire = s.wire;
    }

-- A port whose parts find their places: as many things as there are places at most, and a bound and an instant or none for each number; an empty number has none.
pub record Placed (s : State) : Type 0 where
  pub rows : length s.table.rows ≤ most_rows
  pub bounds : length s.bounds ≡ length s.table.rows
  pub a : length s.a ≤ class_places
  pub b : length s.b ≤ class_places
  pub best : length s.best ≤ best_places
  pub last : instants_for s.table.rows s.last ≡ s.last
