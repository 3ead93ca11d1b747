-- Opening a table: its checks in their order, and when it is accepted.
use Rattle.std.specs.Prelude.{◌+◌, ◌≤◌, Bool, true, false, cond, ◌&&◌, List, [], ◌∷◌, ◌↔◌, ◌≡◌, leb, eqb, length}
use Rattle.table.specs.declared.Class.{Class}
use Rattle.table.specs.declared.Class.TheVariants.{A, B}
use Rattle.table.specs.declared.Row.{Row}
use Rattle.table.specs.Limits.{most_rows, header_place, most_slope, most_payload, class_places}
use Rattle.table.specs.Rows.{is_there, Contents}
use Rattle.table.specs.Checks.{Outcome, unless, unless_row, first}
use Rattle.table.specs.Ranges.{count_ok, header_ok, ranged, Every, InRange}
pub use Rattle.figures.specs.Parts.{row_passes, passes_by}
pub use Rattle.figures.specs.Lanes.{same_test}
use Rattle.planner.specs.Sums.{members, shares, idle}
use Rattle.planner.specs.Bound.{bound, most_in}

-- Rule 8. A class's I is 0 exactly if it has no row, and IA + IB ≤ 750,000.
unfoldable pub used_ok : Class → Contents → Bool
used_ok c t = same_test (eqb (idle c t) 0) (eqb (members c t) 0)

unfoldable pub slopes_ok : Contents → Bool
slopes_ok t = (used_ok A t && used_ok B t) && leb (idle A t + idle B t) most_slope

-- Rule 9. The shares of a class sum to at most its I.
unfoldable pub shares_ok : Class → Contents → Bool
shares_ok c t = leb (shares c t) (idle c t)

-- Rule 10. A row's bound is at most its deadline.
unfoldable pub timely : Contents → Row → Bool
timely t r = cond (is_there r) (leb (bound t r) r.deadline) true

-- Rule 20. The frames that a class's rows may have in the port find their places in its queue.
unfoldable pub room_ok : Class → Contents → Bool
room_ok c t = leb (most_in c t) class_places

-- 8, the slope rules broken. 9, shares above I, place 0 for A, 1 for B. 10, a bound above its deadline, place the lowest such row. 20, more frames in a class
-- than its queue has places, place 0 for A, 1 for B.
abbrev pub fair_checks : Contents → List Outcome
fair_checks t =
    unless (slopes_ok t) 8 0
    ∷ unless (shares_ok A t) 9 0
    ∷ unless (shares_ok B t) 9 1
    ∷ unless_row (timely t) t.rows 10
    ∷ unless (room_ok A t) 20 0
    ∷ unless (room_ok B t) 20 1
    ∷ []

-- Opening a table (also asking for bounds): 3 and 5, row count and values; an empty number has a deadline of 0, so it is 5, place its row. Then 8, 9, 10 and 20.
unfoldable pub opening : Contents → Outcome
opening t = first (ranged t ∷ fair_checks t)

-- A port's table, in which numbers may be empty: the same, and an empty number is passed over.
unfoldable pub ranged_around : Contents → Outcome
ranged_around t = first (unless (count_ok t.rows) 3 0 ∷ unless (header_ok t.header) 5 header_place ∷ unless_row row_passes t.rows 5 ∷ [])

unfoldable pub standing : Contents → Outcome
standing t = first (ranged_around t ∷ fair_checks t)

-- The one of the two that is asked for: whether numbers may be empty.
abbrev pub ranged_by : Bool → Contents → Outcome
ranged_by false = ranged
ranged_by true = ranged_around

abbrev pub verdict_by : Bool → Contents → Outcome
verdict_by false = opening
verdict_by true = standing

-- A table whose rows are in range, its empty numbers passed over.
pub record RangesAround (t : Contents) : Type 0 where
  pub some : 1 ≤ length t.rows
  pub most : length t.rows ≤ most_rows
  pub idlea : t.header.idlea ≤ most_slope
  pub idleb : t.header.idleb ≤ most_slope
  pub best : t.header.payload ≤ most_payload
  pub rows : Every (λ r. is_there r ≡ true → InRange r) t.rows

-- A table is accepted when the values of its rows are in range, a class's I is 0 exactly if it has no row, IA + IB ≤ 750,000, the shares of each class sum to at most
-- its I, each bound is at most its deadline, and the frames that a class's rows may have in the port are at most its queue's places. Empty numbers are passed over.
pub record IsAccepted (t : Contents) : Type 0 where
  pub ranges : RangesAround t
  pub used : (c : Class) → (idle c t ≡ 0) ↔ (members c t ≡ 0)
  pub slopes : idle A t + idle B t ≤ most_slope
  pub fair : (c : Class) → shares c t ≤ idle c t
  pub timely : Every (λ r. is_there r ≡ true → bound t r ≤ r.deadline) t.rows
  pub room : (c : Class) → most_in c t ≤ class_places
