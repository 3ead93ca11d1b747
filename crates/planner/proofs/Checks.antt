-- What it says of a table that its checks pass.
use Prim.Native.Nat.{◌+◌, ◌≤◌}
use mathlib.Core.Bool.{Bool, true, false, ◌&&◌}
use mathlib.Core.List.{[], ◌∷◌}
use mathlib.Core.Path.{◌≡◌}
use lib.Dec.{leb}
use borrow.Author.Tests.{leb-true}
use Rattle.table.specs.declared.Class.TheVariants.{A, B}
use Rattle.table.specs.declared.Row.{Row}
use Rattle.table.specs.Limits.{most_slope, header_place}
use Rattle.table.specs.Rows.{is_there, Contents}
use Rattle.table.specs.Checks.{accepted, unless, unless_row}
use Rattle.table.specs.Ranges.{count_ok, header_ok, ranged, Every, InRange, Ranges}
use Rattle.table.proofs.Laws.{Accept, all_accept, unless_passes, unless_row_passes, and-true, every_map, ranged_if, in_range, count_limits, header_limits}
use Rattle.planner.specs.Sums.{idle}
use Rattle.planner.specs.Opening.{used_ok, slopes_ok, shares_ok, timely, room_ok, fair_checks, opening, row_passes, ranged_around, standing, ranged_by, verdict_by, RangesAround}

-- what the checks behind the ranges say
pub record Passes (t : Contents) : Type 0 where
  pub slopes : slopes_ok t ≡ true
  pub shares_a : shares_ok A t ≡ true
  pub shares_b : shares_ok B t ≡ true
  pub timely : Every (λ r. timely t r ≡ true) t.rows
  pub room_a : room_ok A t ≡ true
  pub room_b : room_ok B t ≡ true

fair_passes : (t : Contents) → Accept (fair_checks t) → Passes t
fair_passes t a =
    record {
      slopes = unless_passes (slopes_ok t) 8 0 a.0;
      shares_a = unless_passes (shares_ok A t) 9 0 a.1.0;
      shares_b = unless_passes (shares_ok B t) 9 1 a.1.1.0;
      timely = unless_row_passes (timely t) t.rows 10 a.1.1.1.0;
      room_a = unless_passes (room_ok A t) 20 0 a.1.1.1.1.0;
      room_b = unless_passes (room_ok B t) 20 1 a.1.1.1.1.1.0;
    }

-- a row that passes is in range if it is there
there_in_range : (r : Row) → row_passes r ≡ true → is_there r ≡ true → InRange r
there_in_range r e h = in_range r (rw h at e)

around_if : (t : Contents) → ranged_around t ≡ accepted → RangesAround t
unfolding ranged_around
around_if t e =
    let a = all_accept (unless (count_ok t.rows) 3 0 ∷ unless (header_ok t.header) 5 header_place ∷ unless_row row_passes t.rows 5 ∷ []) e in
    let n = count_limits t.rows (unless_passes (count_ok t.rows) 3 0 a.0) in
    let h = header_limits t.header (unless_passes (header_ok t.header) 5 header_place a.1.0) in
    record { some = n.0; most = n.1; idlea = h.0; idleb = h.1; best = h.2; rows = every_map (λ r. row_passes r ≡ true) (λ r. is_there r ≡ true → InRange r) there_in_range t.rows (unless_row_passes row_passes t.rows 5 a.1.1.0) }

-- in range, a table is so around its empty numbers
pub around : (t : Contents) → Ranges t → RangesAround t
around t r = record { some = r.some; most = r.most; idlea = r.idlea; idleb = r.idleb; best = r.best; rows = every_map InRange (λ x. is_there x ≡ true → InRange x) (λ x h e. h) t.rows r.rows }

pub ranged_by_lem : (gaps : Bool) (t : Contents) → ranged_by gaps t ≡ accepted → RangesAround t
ranged_by_lem false t e = around t (ranged_if t e)
ranged_by_lem true t e = around_if t e

pub verdict_passes : (gaps : Bool) (t : Contents) → verdict_by gaps t ≡ accepted → (ranged_by gaps t ≡ accepted) × Passes t
unfolding opening standing
verdict_passes false t e = let a = all_accept (ranged t ∷ fair_checks t) e in (a.0, fair_passes t a.1)
verdict_passes true t e = let a = all_accept (ranged_around t ∷ fair_checks t) e in (a.0, fair_passes t a.1)

pub slope_limits : (t : Contents) → slopes_ok t ≡ true → (used_ok A t ≡ true) × (used_ok B t ≡ true) × (idle A t + idle B t ≤ most_slope)
unfolding slopes_ok
slope_limits t e =
    let p = and-true (used_ok A t && used_ok B t) (leb (idle A t + idle B t) most_slope) e in
    let q = and-true (used_ok A t) (used_ok B t) p.0 in
    (q.0, q.1, leb-true _ _ p.1)
