-- What is noted of the frames in a record, row by row, and what is asked of each that waits.
use Rattle.std.specs.Prelude.{ℕ, ◌+◌, ◌≤◌, ◌<◌, Bool, true, false, ◌&&◌, ◌||◌, List, ◌≡◌, leb, eqb, length, get_or, take, map}
use Rattle.table.specs.declared.Class.TheVariants.{A, B}
use Rattle.table.specs.declared.Table.{Table}
use Rattle.table.specs.Limits.{most_rows, class_places}
use Rattle.table.specs.Wire.{period_of}
use Rattle.table.specs.Rows.{no_row, Contents, contents}
use Rattle.figures.specs.declared.Lane.{Lane}
use Rattle.machine.specs.declared.Frame.{Frame}
use Rattle.machine.specs.declared.Queue.{Queue}
use Rattle.machine.specs.declared.Wire.{Wire}
use Rattle.machine.specs.Record.{all_of, taken_in, spaced, newest_of}
use Rattle.frames.specs.Tests.{frame_test, limits_by}
use Rattle.spacing.specs.Spread.{in_record}
use Rattle.notes.specs.declared.Noted.{Noted}
use Rattle.notes.specs.declared.Order.{Order}
use Rattle.notes.specs.declared.Order.TheVariants.{Broken, Rising, Mixed}

-- The rows' newest instants, and their counts.
abbrev pub newests : List Noted → List ℕ
newests xs = map (λ (n : Noted). n.newest) xs

abbrev pub counts : List Noted → List ℕ
counts xs = map (λ (n : Noted). n.count) xs

-- The frames that wait in both class queues, each by its row and its limit of age.
unfoldable pub queues_test : Contents → List ℕ → ℕ → Queue class_places → Queue class_places → Bool
queues_test t limits now a b = all_of (frame_test A t limits now) (take a.count a.frames) && all_of (frame_test B t limits now) (take b.count b.frames)

-- A frame is in turn if it was taken a period or more after the newest of those before it, or if it is the first.
unfoldable pub in_turn : (period count newest : ℕ) → ℕ → Bool
in_turn period count newest x = eqb count 0 || leb (newest + period) x

-- What is noted of some frames, in a place for each row: when the newest was taken, and how many there are.
pub record Notes (fs : List Frame) (xs ns : List ℕ) : Type 0 where
  pub places : (length xs ≡ most_rows) × (length ns ≡ most_rows)
  pub newest : (k : ℕ) → k < most_rows → get_or xs k 0 ≡ newest_of (taken_in k fs)
  pub counts : (k : ℕ) → k < most_rows → get_or ns k 0 ≡ length (taken_in k fs)

-- No row has more than n.
abbrev pub Few : ℕ → List ℕ → Type 0
Few n counts = (k : ℕ) → k < most_rows → get_or counts k 0 ≤ n

-- No two of a row were taken less than its period apart.
abbrev pub Apart : Table → List Frame → Type 0
Apart t fs = (k : ℕ) → k < most_rows → spaced (period_of (get_or t.rows k no_row)) (taken_in k fs) ≡ true

-- All frames noted, and in order, so apart, or perhaps not (`Mixed` says nothing of it: the spaces are still to be asked for); or one of those that wait may not be there. What the notes hold is free
-- then: their owner drops them.
abbrev pub NotedBy : Wire → Queue class_places → Queue class_places → Table → Lane → Lane → ℕ → List ℕ → List ℕ → Order → Type 0
NotedBy w a b t ofa ofb now newest counts Broken = queues_test (contents t) (limits_by ofa ofb t.rows) now a b ≡ false
NotedBy w a b t ofa ofb now newest counts Rising = (queues_test (contents t) (limits_by ofa ofb t.rows) now a b ≡ true) × Notes (in_record w a b) newest counts × Apart t (in_record w a b)
NotedBy w a b t ofa ofb now newest counts Mixed = (queues_test (contents t) (limits_by ofa ofb t.rows) now a b ≡ true) × Notes (in_record w a b) newest counts
