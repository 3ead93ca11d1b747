-- The limits of a table's values, each under one name.
use Rattle.std.specs.Prelude.{ℕ}

-- D: slopes and shares are in millionths of the port rate.
abbrev pub D : ℕ
D = 1000000

-- 1 to 32 rows.
abbrev pub most_rows : ℕ
most_rows = 32

-- The place of a header value where rows are places.
abbrev pub header_place : ℕ
header_place = 32

-- I of A and of B, 0 to 750,000 each, and so is their sum.
abbrev pub most_slope : ℕ
most_slope = 750000

-- Payloads of 0 to 1500 bytes.
abbrev pub most_payload : ℕ
most_payload = 1500

-- Wire sizes of 84 to 1548 bytes; without a tag, as best effort is, 1542 at most.
abbrev pub least_size : ℕ
least_size = 84

abbrev pub most_size : ℕ
most_size = 1548

-- Periods of 84 to 1,000,000,000 byte-times.
abbrev pub least_period : ℕ
least_period = 84

abbrev pub most_period : ℕ
most_period = 1000000000

-- Deadlines of 1 to 1,000,000,000 byte-times.
abbrev pub most_deadline : ℕ
most_deadline = 1000000000

-- Sample rates of 1,000 to 200,000 Hz, and 1 to 255 samples a frame.
abbrev pub least_rate : ℕ
least_rate = 1000

abbrev pub most_rate : ℕ
most_rate = 200000

abbrev pub most_samples : ℕ
most_samples = 255

-- The byte-times of a second.
abbrev pub second : ℕ
second = 125000000

-- The wire size of the largest payload that 16 bits can state, in range or not, with a tag.
abbrev pub any_size : ℕ
any_size = 65583

-- The period of the most samples at the lowest rate that a row's fields can state, in range or not.
abbrev pub any_period : ℕ
any_period = 31875000000

-- The places of a class queue: the most frames that a class's rows together may have in the port.
abbrev pub class_places : ℕ
class_places = 64

-- The bytes of a frame that are left when it is reported ended: the gap behind its check sequence.
abbrev pub left_at_report : ℕ
left_at_report = 12
