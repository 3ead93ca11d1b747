-- Rules 3 and 5 of opening: the row count, and values in range.
use Rattle.std.specs.Prelude.{ℕ, ◌≤◌, Bool, true, ◌&&◌, List, [], ◌∷◌, ◌≡◌, leb, length}
use Rattle.table.specs.declared.Pace.{Pace}
use Rattle.table.specs.declared.Pace.TheVariants.{Period, Rated}
use Rattle.table.specs.declared.Row.{Row}
use Rattle.table.specs.declared.Header.{Header}
use Rattle.table.specs.Limits.{most_rows, header_place, most_slope, most_payload, least_period, most_period, least_rate, most_rate, most_samples, most_deadline}
use Rattle.table.specs.Wire.{period_of}
use Rattle.table.specs.Rows.{Contents}
use Rattle.table.specs.Checks.{Outcome, unless, unless_row, first}

-- Rule 3. The row count is 1 to 32.
unfoldable pub count_ok : List Row → Bool
count_ok rs = leb 1 (length rs) && leb (length rs) most_rows

-- Rule 5, the header. Slopes are 0 to 750,000 each and the best-effort payload 0 to 1500.
unfoldable pub header_ok : Header → Bool
header_ok h = (leb h.idlea most_slope && leb h.idleb most_slope) && leb h.payload most_payload

-- A value from low to high.
abbrev pub within : (low high : ℕ) → ℕ → Bool
within low high v = leb low v && leb v high

-- Rule 5, a pace. A period is 84 to 1,000,000,000 byte-times; a rate is 1,000 to 200,000 Hz, with 1 to 255 samples.
abbrev pub period_ok : ℕ → Bool
period_ok p = within least_period most_period p

abbrev pub rate_ok : ℕ → Bool
rate_ok rate = within least_rate most_rate rate

abbrev pub samples_ok : ℕ → Bool
samples_ok samples = within 1 most_samples samples

unfoldable pub pace_ok : Pace → Bool
pace_ok (Period p) = period_ok p
pace_ok (Rated samples rate) = rate_ok rate && samples_ok samples

-- Rule 5, a row. Its payload is 0 to 1500, its pace is in range, its deadline is 1 to 1,000,000,000 byte-times, whatever the period.
abbrev pub deadline_ok : ℕ → Bool
deadline_ok d = within 1 most_deadline d

unfoldable pub row_ok : Row → Bool
row_ok r = (leb r.payload most_payload && pace_ok r.pace) && deadline_ok r.deadline

-- 3, row count not 1 to 32. 5, a value out of range, place its row, or 32 for a header value (header first).
abbrev pub range_checks : Contents → List Outcome
range_checks t = unless (count_ok t.rows) 3 0 ∷ unless (header_ok t.header) 5 header_place ∷ unless_row row_ok t.rows 5 ∷ []

unfoldable pub ranged : Contents → Outcome
ranged t = first (range_checks t)

-- What holds of every row of a list.
abbrev pub Every : (Row → Type 0) → List Row → Type 0
Every P [] = Unit {0}
Every P (r ∷ rs) = P r × Every P rs

-- A row in range. Whichever way its period is given, it is 84 to 1,000,000,000 byte-times.
pub record InRange (r : Row) : Type 0 where
  pub payload : r.payload ≤ most_payload
  pub pace : pace_ok r.pace ≡ true
  pub shortest : least_period ≤ period_of r
  pub longest : period_of r ≤ most_period
  pub positive : 1 ≤ r.deadline
  pub deadline : r.deadline ≤ most_deadline

-- A table in range.
pub record Ranges (t : Contents) : Type 0 where
  pub some : 1 ≤ length t.rows
  pub most : length t.rows ≤ most_rows
  pub idlea : t.header.idlea ≤ most_slope
  pub idleb : t.header.idleb ≤ most_slope
  pub best : t.header.payload ≤ most_payload
  pub rows : Every InRange t.rows
