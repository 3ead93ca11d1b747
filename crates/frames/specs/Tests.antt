-- The tests of a record's frames, each in one pass over a frame's values.
use Rattle.std.specs.Prelude.{ℕ, ◌-◌, Bool, cond, ◌&&◌, List, map, leb, ltb, eqb, get_or}
use Rattle.table.specs.declared.Class.{Class}
use Rattle.table.specs.declared.Row.{Row}
use Rattle.table.specs.Limits.{least_size}
use Rattle.table.specs.Wire.{size_of}
use Rattle.table.specs.Rows.{Contents, row_at, in_use}
use Rattle.figures.specs.declared.Lane.{Lane}
use Rattle.planner.specs.Sums.{in_class, best_size}
use Rattle.figures.specs.Lanes.{residence_by}
use Rattle.machine.specs.declared.Frame.{Frame}
use Rattle.machine.specs.Limits.{best_mark}

-- The limit of age of a frame of each row, by the numbers of its class: its residence.
abbrev pub limits_by : Lane → Lane → List Row → List ℕ
limits_by a b rows = map (residence_by a b) rows

-- A row's frame by its row and a limit of age: of the class, of a fitting size, not taken after the clock, younger than the limit.
unfoldable pub row_test : Class → Frame → Row → ℕ → ℕ → Bool
row_test c f r limit now =
    (in_class c r && (leb least_size f.size && leb f.size (size_of r))) && (leb f.taken now && ltb (now - f.taken) limit)

-- The same of a frame that names its row, by the rows and their limits.
unfoldable pub frame_test : Class → Contents → List ℕ → ℕ → Frame → Bool
frame_test c t limits now f = in_use t f.source && row_test c f (row_at t f.source) (get_or limits f.source 0) now

-- A best-effort frame: its mark, a fitting size, not taken after the clock.
unfoldable pub best_test : ℕ → ℕ → Frame → Bool
best_test most now f = (eqb f.source best_mark && (leb least_size f.size && leb f.size most)) && leb f.taken now

-- The frame on the wire: bytes left 1 to the size, and a row's frame by its row's class or a best-effort frame.
unfoldable pub sending_test : Contents → List ℕ → ℕ → Frame → ℕ → Bool
sending_test t limits now f left =
    (leb 1 left && leb left f.size) && cond (in_use t f.source) (frame_test (row_at t f.source).class t limits now f) (best_test (best_size t) now f)
