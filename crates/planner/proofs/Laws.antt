-- The laws of an accepted table, stated over the class: with those of `Growth` all that the crates above may know of how a bound is worked out.
use Prim.Native.Nat.{ℕ, suc, ◌+◌, ◌-◌, ◌*◌, ◌/◌, ◌≤◌, ◌<◌, max}
use mathlib.Core.Bool.{Bool, true, false, cond, ◌&&◌, false≢true}
use mathlib.Core.List.{List, [], ◌∷◌}
use mathlib.Core.Logic.{◌↔◌, ⊎_elim}
use mathlib.Core.Path.{◌≡◌, refl, sym}
use native.Mathlib.Nat.{mul-add, add-mul, lt_of_mul-lt-mul_left, lt_of_le_of_lt, add_assoc, lt-mul-div-succ, mul-le-mul, max-le, eq-zero-or-pos}
use native.Mathlib.Omega.{arith}
use lib.Dec.{leb, ltb}
use lib.ListN.{length}
use borrow.Author.Tests.{leb-true, le-leb, lt-leb, ltb-true, ltb-false, eq-eqb, ne_eqb, eqb-true}
use Rattle.table.specs.declared.Class.{Class}
use Rattle.table.specs.declared.Class.TheVariants.{A, B}
use Rattle.std.specs.Prelude.{Result, Ok, Err, is_err}
use Rattle.table.specs.declared.Row.{Row}
use Rattle.table.specs.declared.Refusal.{Refusal}
use Rattle.figures.specs.declared.Lane.{Lane}
use Rattle.figures.specs.declared.Both.{Both}
use Rattle.table.specs.Limits.{D, most_rows, most_slope, most_payload, most_size, least_size, least_period, class_places, left_at_report}
use Rattle.table.specs.Wire.{ceil_div, wire_size, size_of, period_of, share_of}
use Rattle.table.specs.Rows.{no_row, is_there, Contents, row_at, InUse}
use Rattle.table.specs.Checks.{accepted, refused, outcome_of}
use Rattle.table.specs.Ranges.{count_ok, header_ok, row_ok, Every, InRange}
use Rattle.table.proofs.Laws as table
use Rattle.planner.specs.Sums.{in_class, counts, part, sum_over, max_over, members, largest, total, shares, idle, send, best_size}
use Rattle.planner.specs.Bound.{blocking, residence_in, residence, bound, most_of, most_in}
use Rattle.planner.specs.Opening.{used_ok, slopes_ok, shares_ok, timely, room_ok, opening, row_passes, ranged_around, standing, verdict_by, RangesAround, IsAccepted}
use Rattle.planner.specs.Plan.{lane_of, Classed, pick_lane, most_modest, modest, residence_by}
use Rattle.planner.proofs.Members.{sum_at, max_at}
use Rattle.planner.proofs.Checks.{ranged_by_lem, verdict_passes, slope_limits}
-- the bound of a row in the list of bounds
pub use Rattle.planner.proofs.Limits.{bound_at, all_filled, bounds_row}

-- ---- sums over a class
pub sum_none : (c : Class) (f : Row → ℕ) → sum_over c f [] ≡ 0
unfolding sum_over
sum_none c f = refl

pub sum_more : (c : Class) (f : Row → ℕ) (r : Row) (rs : List Row) → sum_over c f (r ∷ rs) ≡ part c f r + sum_over c f rs
unfolding sum_over
sum_more c f r rs = refl

-- the sums of a table's classes
pub total_sum : (c : Class) (t : Contents) → total c t ≡ sum_over c size_of t.rows
unfolding total
total_sum c t = refl

pub shares_sum : (c : Class) (t : Contents) → shares c t ≡ sum_over c share_of t.rows
unfolding shares
shares_sum c t = refl

pub most_sum : (c : Class) (t : Contents) → most_in c t ≡ sum_over c (most_of t) t.rows
unfolding most_in
most_sum c t = refl

-- the largest of a class is at most what each row is at most
part_most : (c : Class) (f : Row → ℕ) (m : ℕ) (r : Row) → (is_there r ≡ true → f r ≤ m) → part c f r ≤ m
part_most c f m r h = go (in_class c r) (is_there r) refl
  where
    go : (a b : Bool) → is_there r ≡ b → cond (a && b) (f r) 0 ≤ m
    go true true e = h e
    go true false e = omega arith
    go false b e = omega arith

max_most : (c : Class) (f : Row → ℕ) (m : ℕ) (rs : List Row) → Every (λ r. is_there r ≡ true → f r ≤ m) rs → max_over c f rs ≤ m
unfolding max_over
max_most c f m [] e = omega arith
max_most c f m (r ∷ rs) e = max-le (part_most c f m r e.0) (max_most c f m rs e.1)

-- and the sum at most that for each row
sum_most : (c : Class) (f : Row → ℕ) (m : ℕ) (rs : List Row) → Every (λ r. is_there r ≡ true → f r ≤ m) rs → sum_over c f rs ≤ length rs * m
unfolding sum_over
sum_most c f m [] e = omega arith
sum_most c f m (r ∷ rs) e = omega (arith, part_most c f m r e.0, sum_most c f m rs e.1)

-- ---- an accepted table is one that opening accepts
pub used_iff : (c : Class) (t : Contents) → used_ok c t ≡ true → (idle c t ≡ 0) ↔ (members c t ≡ 0)
unfolding used_ok
used_iff c t e = (there, back)
  where
    there : idle c t ≡ 0 → members c t ≡ 0
    there z = eqb-true (members c t) 0 (rw (eq-eqb (idle c t) 0 z) at e)

    back : members c t ≡ 0 → idle c t ≡ 0
    back z = ⊎_elim (λ q. q) (λ q. absurd (false≢true (rw (ne_eqb (idle c t) 0 (λ w. omega arith), eq-eqb (members c t) 0 z) at e))) (eq-zero-or-pos (idle c t))

timely_at : (t : Contents) (r : Row) → timely t r ≡ true → is_there r ≡ true → bound t r ≤ r.deadline
unfolding timely
timely_at t r e h = leb-true (bound t r) r.deadline (rw h at e)

at_timely : (t : Contents) (r : Row) → (is_there r ≡ true → bound t r ≤ r.deadline) → timely t r ≡ true
unfolding timely
at_timely t r h = go (is_there r) refl
  where
    go : (b : Bool) → is_there r ≡ b → cond b (leb (bound t r) r.deadline) true ≡ true
    go true e = le-leb (bound t r) r.deadline (h e)
    go false e = refl

fair_at : (c : Class) (t : Contents) → shares_ok c t ≡ true → shares c t ≤ idle c t
unfolding shares_ok
fair_at c t e = leb-true (shares c t) (idle c t) e

room_at : (c : Class) (t : Contents) → room_ok c t ≡ true → most_in c t ≤ class_places
unfolding room_ok
room_at c t e = leb-true (most_in c t) class_places e

-- whichever verdict is asked for
pub accepted_by : (gaps : Bool) (t : Contents) → verdict_by gaps t ≡ accepted → IsAccepted t
accepted_by gaps t e =
    let v = verdict_passes gaps t e in
    let p = v.1 in
    let s = slope_limits t p.slopes in
    record {
      ranges = ranged_by_lem gaps t v.0;
      used = used_of s.0 s.1;
      slopes = s.2;
      fair = fair_of p.shares_a p.shares_b;
      timely = table.every_map (λ r. timely t r ≡ true) (λ r. is_there r ≡ true → bound t r ≤ r.deadline) (timely_at t) t.rows p.timely;
      room = room_of p.room_a p.room_b;
    }
  where
    used_of : used_ok A t ≡ true → used_ok B t ≡ true → (c : Class) → (idle c t ≡ 0) ↔ (members c t ≡ 0)
    used_of a b A = used_iff A t a
    used_of a b B = used_iff B t b

    fair_of : shares_ok A t ≡ true → shares_ok B t ≡ true → (c : Class) → shares c t ≤ idle c t
    fair_of a b A = fair_at A t a
    fair_of a b B = fair_at B t b

    room_of : room_ok A t ≡ true → room_ok B t ≡ true → (c : Class) → most_in c t ≤ class_places
    room_of a b A = room_at A t a
    room_of a b B = room_at B t b

-- whatever `classes` answers is what the verdict asked for says
pub accepted_with : (gaps : Bool) (t : Contents) (r : Result (Both Lane) Refusal) → is_err r ≡ false → Classed gaps t r → verdict_by gaps t ≡ accepted
accepted_with gaps t (Ok l) e h = h.verdict
accepted_with gaps t (Err r) e h = absurd (false≢true (sym e))

pub refused_by : (gaps : Bool) (t : Contents) (r : Result (Both Lane) Refusal) → is_err r ≡ true → Classed gaps t r → (x : Refusal) × (verdict_by gaps t ≡ outcome_of (Err x))
refused_by gaps t (Ok l) e h = absurd (false≢true e)
refused_by gaps t (Err r) e h = (r, h)

used_passes : (c : Class) (t : Contents) → (idle c t ≡ 0) ↔ (members c t ≡ 0) → used_ok c t ≡ true
unfolding used_ok
used_passes c t e =
    ⊎_elim
    (λ z. rw (eq-eqb (idle c t) 0 z, eq-eqb (members c t) 0 (e.0 z)) refl)
    (λ p. rw (ne_eqb (idle c t) 0 (λ z. omega arith), ne_eqb (members c t) 0 (λ z. absurd (omega (arith, e.1 z)))) refl)
    (eq-zero-or-pos (idle c t))

-- a table may be opened: it is accepted, and no number below its count is empty
pub accepted_if : (t : Contents) → opening t ≡ accepted → IsAccepted t
accepted_if t e = accepted_by false t e

pub opened_full : (t : Contents) → opening t ≡ accepted → Every (λ r. is_there r ≡ true) t.rows
opened_full t e = table.every_map InRange (λ r. is_there r ≡ true) (λ r h. table.in_range_there r h.positive) t.rows (table.ranged_if t (verdict_passes false t e).0).rows

-- a table stands: it is accepted
pub standing_slopes : (t : Contents) → standing t ≡ accepted → slopes_ok t ≡ true
standing_slopes t e = (verdict_passes true t e).1.slopes

pub standing_if : (t : Contents) → standing t ≡ accepted → IsAccepted t
standing_if t e = accepted_by true t e

pub around_only_if : (t : Contents) → RangesAround t → ranged_around t ≡ accepted
unfolding ranged_around count_ok header_ok
around_only_if t ok =
    rw (
      le-leb 1 (length t.rows) ok.some,
      le-leb (length t.rows) most_rows ok.most,
      le-leb t.header.idlea most_slope ok.idlea,
      le-leb t.header.idleb most_slope ok.idleb,
      le-leb t.header.payload most_payload ok.best,
      table.unless_row_accepts row_passes t.rows 5 (table.every_map (λ r. is_there r ≡ true → InRange r) (λ r. row_passes r ≡ true) passes t.rows ok.rows),
    )
    refl
  where
    passes : (r : Row) → (is_there r ≡ true → InRange r) → row_passes r ≡ true
    passes r h = go (is_there r) refl
      where
        go : (b : Bool) → is_there r ≡ b → cond b (row_ok r) true ≡ true
        go true e = table.row_passes_lem r (h e)
        go false e = refl

pub standing_only_if : (t : Contents) → IsAccepted t → standing t ≡ accepted
unfolding standing slopes_ok shares_ok room_ok
standing_only_if t ok =
    rw (
      around_only_if t ok.ranges,
      used_passes A t (ok.used A),
      used_passes B t (ok.used B),
      le-leb (idle A t + idle B t) most_slope ok.slopes,
      le-leb (shares A t) (idle A t) (ok.fair A),
      le-leb (shares B t) (idle B t) (ok.fair B),
      table.unless_row_accepts (timely t) t.rows 10 (table.every_map (λ r. is_there r ≡ true → bound t r ≤ r.deadline) (λ r. timely t r ≡ true) (at_timely t) t.rows ok.timely),
      le-leb (most_in A t) class_places (ok.room A),
      le-leb (most_in B t) class_places (ok.room B),
    )
    refl

-- a list of more than 32 rows is refused with 3
pub too_many : (t : Contents) → most_rows < length t.rows → opening t ≡ refused 3 0
unfolding opening
too_many t h = rw (table.too_many t h) refl

-- ---- both classes
picked : (c : Class) (t : Contents) → pick_lane c (lane_of A t) (lane_of B t) ≡ lane_of c t
picked A t = refl
picked B t = refl

-- the class of the row at a number, and what stands before the quotient of its residence
abbrev class_at : Contents → ℕ → Class
class_at t k = (row_at t k).class

abbrev backlog : Contents → ℕ → ℕ
backlog t k = D * (total (class_at t k) t - size_of (row_at t k)) + send (class_at t k) t * largest (class_at t k) t

-- LC is the wire size of the best-effort payload
pub best_is : (t : Contents) → best_size t ≡ wire_size t.header.payload
unfolding best_size
best_is t = refl

sum_is : (t : Contents) (k : ℕ) → residence t (row_at t k) ≡ size_of (row_at t k) + blocking (class_at t k) t + backlog t k / idle (class_at t k) t
unfolding residence residence_in
sum_is t k = refl

-- a frame is in the port until its last byte, and is reported so many bytes before
pub bound_report : (t : Contents) (r : Row) → bound t r + left_at_report ≡ residence t r
unfolding bound residence residence_in
bound_report t r = omega (arith, table.size_least r)

pub residence_some : (t : Contents) (r : Row) → 0 < residence t r
unfolding residence residence_in
residence_some t r = omega (arith, table.size_least r)

pub bound_some : (t : Contents) (r : Row) → 0 < bound t r
unfolding bound residence residence_in
bound_some t r = omega (arith, table.size_least r)

module _ (t : Contents) (ok : IsAccepted t) where
  pub rows_most : length t.rows ≤ most_rows
  rows_most = ok.ranges.most

  sizes : Every (λ r. is_there r ≡ true → size_of r ≤ most_size) t.rows
  sizes = table.every_map (λ r. is_there r ≡ true → InRange r) (λ r. is_there r ≡ true → size_of r ≤ most_size) (λ r h e. table.size_most r (h e).payload) t.rows ok.ranges.rows

  pub best_least : least_size ≤ best_size t
  unfolding best_size
  best_least = table.wire_least t.header.payload

  best_most : best_size t ≤ most_size
  unfolding best_size
  best_most = table.wire_most t.header.payload ok.ranges.best

  pub best_within : (p : ℕ) → p ≤ t.header.payload → wire_size p ≤ best_size t
  unfolding best_size
  best_within p h = table.wire_grows p t.header.payload h

  pub slopes_below : idle A t + idle B t ≤ most_slope
  slopes_below = ok.slopes

  pub idle_most : (c : Class) → idle c t ≤ most_slope
  idle_most A = ok.ranges.idlea
  idle_most B = ok.ranges.idleb

  module _ (c : Class) where
    pub idle_send : idle c t + send c t ≡ D
    idle_send = omega (arith, idle_most c)

    pub send_least : D - most_slope ≤ send c t
    send_least = omega (arith, idle_most c)

    pub shares_within : shares c t ≤ idle c t
    shares_within = ok.fair c

    -- the frames that the rows of a class may have in the port
    pub most_within : most_in c t ≤ class_places
    most_within = ok.room c

    pub total_most : total c t ≤ most_rows * most_size
    unfolding total
    total_most = omega (arith, sum_most c size_of most_size t.rows sizes, rows_most)

    -- L is at most the largest wire size
    pub largest_most : largest c t ≤ most_size
    unfolding largest
    largest_most = max_most c size_of most_size t.rows sizes

  -- HA is at least LC, and at least LB
  pub blocking_a : (best_size t ≤ blocking A t) × (largest B t ≤ blocking A t)
  unfolding blocking
  blocking_a = (omega arith, omega arith)

  -- HB × SA is at least LA × SA + D × LC
  pub blocking_b : largest A t * send A t + D * best_size t ≤ blocking B t * send A t
  unfolding blocking
  blocking_b =
      let s = send_least A in
      let n = max (D * best_size t) (idle A t * largest B t) in
      rw (add-mul (largest A t)) (omega (arith, table.ceil_covers n (send A t) (omega arith)))

  -- HA is at most 1548, and HB at most that and D × 1548 / 250,000
  pub blocking_most : (c : Class) → blocking c t ≤ 5 * most_size
  unfolding blocking
  blocking_most A = omega (arith, largest_most B, best_most)
  blocking_most B =
      let n = max (D * best_size t) (idle A t * largest B t) in
      let burst : idle A t * largest B t ≤ most_slope * most_size = mul-le-mul (idle_most A) (largest_most B) in
      let q : ceil_div n (send A t) ≤ 4 * most_size = table.ceil_most n (send A t) (4 * most_size) (omega (arith, send_least A)) (omega (arith, send_least A, best_most)) in
      omega (arith, largest_most A)

  -- a class that has a row has small numbers
  lane_modest : (c : Class) → 0 < idle c t → modest (lane_of c t) ≡ true
  unfolding modest
  lane_modest c some =
      rw (le-leb 1 (idle c t) some, le-leb _ _ (idle_most c), le-leb (largest c t) most_modest (omega (arith, largest_most c)), le-leb (total c t) most_modest (omega (arith, total_most c)), le-leb (blocking c t) most_modest (omega (arith, blocking_most c)))
      refl

  -- ---- the row at a number in use
  module _ (k : ℕ) (in_use_lem : InUse t k) where
    own : counts (class_at t k) (row_at t k) ≡ true
    own = rw (table.same_self (class_at t k), in_use_lem.there) refl

    row_range : InRange (row_at t k)
    row_range = table.every_at (λ r. is_there r ≡ true → InRange r) t.rows ok.ranges.rows k in_use_lem.below in_use_lem.there

    pub size_largest : size_of (row_at t k) ≤ largest (class_at t k) t
    unfolding largest
    size_largest = max_at (class_at t k) size_of t.rows k no_row in_use_lem.below own

    size_total : size_of (row_at t k) ≤ total (class_at t k) t
    unfolding total
    size_total = sum_at (class_at t k) size_of t.rows k no_row in_use_lem.below own

    member : 0 < members (class_at t k) t
    unfolding members
    member = sum_at (class_at t k) (λ r. 1) t.rows k no_row in_use_lem.below own

    idle_positive : 0 < idle (class_at t k) t
    idle_positive =
        ⊎_elim (λ z. absurd (omega (arith, (ok.used (class_at t k)).0 z, member))) (λ p. p) (eq-zero-or-pos (idle (class_at t k) t))

    -- by the classes of its table, a row has its residence
    pub residence_by_lem : residence_by (lane_of A t) (lane_of B t) (row_at t k) ≡ residence t (row_at t k)
    unfolding residence_by residence residence_in
    residence_by_lem = rw (picked (class_at t k) t, lane_modest (class_at t k) idle_positive, le-leb _ _ size_total) refl

    -- share × P is at least D × C
    pub share_covers : D * size_of (row_at t k) ≤ share_of (row_at t k) * period_of (row_at t k)
    unfolding share_of
    share_covers = table.ceil_covers (D * size_of (row_at t k)) (period_of (row_at t k)) (omega (arith, row_range.shortest))

    pub period_least : least_period ≤ period_of (row_at t k)
    period_least = row_range.shortest

    -- ---- how many frames of the row may be in the port: more than n if n periods are shorter than its residence
    pub most_above : (n : ℕ) → n * period_of (row_at t k) < residence t (row_at t k) → n < most_of t (row_at t k)
    unfolding most_of
    most_above n h = table.ceil_above (residence t (row_at t k)) (period_of (row_at t k)) n (omega (arith, period_least)) h

    -- as a test: a frame more than n is one too many if n periods are as long
    pub most_periods : (n : ℕ) → ltb (n * period_of (row_at t k)) (residence t (row_at t k)) ≡ leb (suc n) (most_of t (row_at t k))
    unfolding most_of
    most_periods n = go (ltb (n * period_of (row_at t k)) (residence t (row_at t k))) refl
      where
        some : 0 < period_of (row_at t k)
        some = omega (arith, period_least)

        one_more : {x : ℕ} → x ≤ n → x < suc n
        one_more h = omega arith

        go : (b : Bool) → ltb (n * period_of (row_at t k)) (residence t (row_at t k)) ≡ b → b ≡ leb (suc n) (ceil_div (residence t (row_at t k)) (period_of (row_at t k)))
        go true e = sym (le-leb (suc n) _ (table.ceil_above (residence t (row_at t k)) (period_of (row_at t k)) n some (ltb-true _ _ e)))
        go false e = sym (lt-leb (suc n) _ (one_more (table.ceil_most (residence t (row_at t k)) (period_of (row_at t k)) n some (ltb-false _ _ e))))

    -- ---- residence
    -- what waits no longer than its class allows is out of the port within its residence
    pub residence_waits : (age : ℕ) → idle (class_at t k) t * age ≤ idle (class_at t k) t * blocking (class_at t k) t + backlog t k → age + size_of (row_at t k) ≤ residence t (row_at t k)
    residence_waits age h =
        let i = idle (class_at t k) t in
        let rest : residence t (row_at t k) - size_of (row_at t k) ≡ blocking (class_at t k) t + backlog t k / i = omega (arith, sum_is t k) in
        let high : i * blocking (class_at t k) t + backlog t k < i * (residence t (row_at t k) - size_of (row_at t k) + 1) =
        rw (rest, add_assoc (blocking (class_at t k) t) (backlog t k / i) 1, mul-add i (blocking (class_at t k) t) (backlog t k / i + 1)) (omega (arith, lt-mul-div-succ (backlog t k) idle_positive)) in
        let below : age < residence t (row_at t k) - size_of (row_at t k) + 1 = lt_of_mul-lt-mul_left i (lt_of_le_of_lt h high) in
        omega (arith, sum_is t k)
