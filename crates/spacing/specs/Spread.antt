-- How far apart the frames of each row in a record were taken.
use Rattle.std.specs.Prelude.{ℕ, Bool, ◌&&◌, List, ◌++◌, leb, take}
use Rattle.table.specs.declared.Table.{Table}
use Rattle.table.specs.Limits.{most_rows, class_places}
use Rattle.table.specs.Wire.{period_of}
use Rattle.table.specs.Rows.{Contents, contents, row_at}
use Rattle.machine.specs.declared.Frame.{Frame}
use Rattle.machine.specs.declared.Wire.{Wire}
use Rattle.machine.specs.declared.Queue.{Queue}
use Rattle.machine.specs.Record.{taken_in, sending, up_to, spaced}

-- The frames in a record, on the wire or waiting in a class queue.
abbrev pub in_record : Wire → Queue class_places → Queue class_places → List Frame
in_record w a b = sending w ++ (take a.count a.frames ++ take b.count b.frames)

-- The rows and the frames of both class queues have their places.
unfoldable pub in_places : Table → Queue class_places → Queue class_places → Bool
in_places t a b = leb t.count most_rows && (leb a.count class_places && leb b.count class_places)

-- No two frames of a row were taken less than its period apart; and so of all rows, false where rows or frames have no place.
unfoldable pub spaced_test : Contents → List Frame → ℕ → Bool
spaced_test t fs k = spaced (period_of (row_at t k)) (taken_in k fs)

abbrev pub spread_test : Wire → Queue class_places → Queue class_places → Table → Bool
spread_test w a b t = in_places t a b && up_to t.count (spaced_test (contents t) (in_record w a b))
