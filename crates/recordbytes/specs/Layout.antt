-- Where the parts of a port record stand: 768 words, each at its place.
--   0            the version
--   1 to 4       idle slope of A, of B, best-effort payload, row count
--   5 to 228     32 rows: class (0 A, 1 B), tag (1 if its frames carry one, else 0), payload, deadline, pace: 0 and the period; or 1, the rate and the samples
--   229 to 231   clock, credit of A, of B (two's complement)
--   232 to 424   queue of A: count, 64 frames: source, size, instant taken
--   425 to 617   queue of B
--   618 to 666   best-effort queue: count, 16 frames
--   667 to 730   32 last instants: mark (1 if there is one, else 0), instant
--   731 to 762   32 bounds
--   763 to 767   wire: 0 when free; 1, the frame and its bytes left (12 or fewer: it has been reported)
use Rattle.std.specs.Prelude.{ℕ, ◌+◌, ◌*◌}
use Rattle.table.specs.Limits.{most_rows}
use Rattle.machine.specs.Limits.{class_places, best_places}
use Rattle.rowbytes.specs.Row.{row_width}

-- The version, one for each layout and for each meaning of its words: above every idle slope, with which records began before they had one.
abbrev pub version : ℕ
version = 1000006

-- The words of the header, the clock with the credits, a frame, an instant, a bound and the wire. A queue has a count before its frames.
abbrev pub head_width : ℕ
head_width = 5

abbrev pub numbers_width : ℕ
numbers_width = 3

abbrev pub frame_width : ℕ
frame_width = 3

abbrev pub last_width : ℕ
last_width = 2

abbrev pub bound_width : ℕ
bound_width = 1

abbrev pub wire_width : ℕ
wire_width = 1 + frame_width + 1

-- The first word of each part: behind the part before it.
abbrev pub head_start : ℕ
head_start = 0

abbrev pub rows_start : ℕ
rows_start = head_start + head_width

abbrev pub clock_start : ℕ
clock_start = rows_start + row_width * most_rows

abbrev pub queuea_start : ℕ
queuea_start = clock_start + numbers_width

abbrev pub queueb_start : ℕ
queueb_start = queuea_start + 1 + frame_width * class_places

abbrev pub best_start : ℕ
best_start = queueb_start + 1 + frame_width * class_places

abbrev pub last_start : ℕ
last_start = best_start + 1 + frame_width * best_places

abbrev pub bounds_start : ℕ
bounds_start = last_start + last_width * most_rows

abbrev pub wire_start : ℕ
wire_start = bounds_start + bound_width * most_rows

-- The header's words behind the version: the idle slopes of A and of B, the best-effort payload, the row count.
abbrev pub idlea_place : ℕ
idlea_place = head_start + 1

abbrev pub idleb_place : ℕ
idleb_place = head_start + 2

abbrev pub payload_place : ℕ
payload_place = head_start + 3

abbrev pub count_place : ℕ
count_place = head_start + 4

-- The words and the bytes of a record.
abbrev pub record_width : ℕ
record_width = wire_start + wire_width

abbrev pub record_size : ℕ
record_size = 8 * record_width
