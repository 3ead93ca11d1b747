-- A table's classes are right at each end: a refusal by the check that decides, and acceptance.
use Prim.Native.Nat.{ℕ, ◌≤◌, ◌<◌}
use mathlib.Core.Bool.{Bool, true, false}
use mathlib.Core.List.{List, [], ◌∷◌}
use mathlib.Core.Path.{◌≡◌, refl}
use lib.ListN.{length}
use borrow.Author.Tests.{le-leb, lt-leb}
use Rattle.table.specs.declared.Class.TheVariants.{A, B}
use Rattle.table.specs.declared.Refusal.{Refusal}
use Rattle.std.specs.Prelude.{Result, Ok, Err, IsErrAnd}
use Rattle.table.specs.Limits.{header_place}
use Rattle.table.specs.Rows.{Contents}
use Rattle.table.specs.Checks.{accepted, refused, number_of, place_of, unless, passing, unless_row, first}
use Rattle.table.specs.Ranges.{count_ok, header_ok, ranged}
use Rattle.figures.specs.declared.Lane.{Lane}
use Rattle.figures.specs.declared.Both.{Both}
use Rattle.planner.specs.Opening.{slopes_ok, shares_ok, timely, room_ok, fair_checks, opening, ranged_around, standing, passes_by, ranged_by, verdict_by}
use Rattle.planner.specs.Plan.{lane_of, Classed, filled_to, bounds_for, BoundsIn}
use Rattle.planner.specs.Steps.{Passed}

-- whichever verdict is asked for, these are its checks
ranges : (gaps : Bool) (t : Contents) → ranged_by gaps t ≡ first (unless (count_ok t.rows) 3 0 ∷ unless (header_ok t.header) 5 header_place ∷ unless_row (passes_by gaps) t.rows 5 ∷ [])
unfolding ranged ranged_around
ranges false t = refl
ranges true t = refl

checks : (gaps : Bool) (t : Contents) → verdict_by gaps t ≡ first (ranged_by gaps t ∷ fair_checks t)
unfolding opening standing
checks false t = refl
checks true t = refl

module _ (gaps : Bool) (t : Contents) where
  pub refused_right : (xs : List ℕ) (r : Refusal) {ys : List ℕ} → verdict_by gaps t ≡ refused (number_of r) (place_of r) → ys ≡ filled_to (bounds_for (refused (number_of r) (place_of r)) t) t xs → Classed gaps t (Err r) × BoundsIn gaps t xs ys
  refused_right xs r e h = (e, rw e h)

  -- the refusal that `?` hands on
  pub handed_on : (xs : List ℕ) (q : Result (Both Lane) Refusal) (r : Refusal) {e : Refusal} {ys : List ℕ} → IsErrAnd q (λ y. y ≡ e) → e ≡ r → verdict_by gaps t ≡ refused (number_of r) (place_of r) → ys ≡ filled_to (bounds_for (refused (number_of r) (place_of r)) t) t xs → Classed gaps t q × BoundsIn gaps t xs ys
  handed_on xs (Ok l) r a f e h = absurd a
  handed_on xs (Err y) r a f e h = rw (a, f) (refused_right xs r e h)

  pub accepted_right : (xs : List ℕ) {a b : Lane} {ys : List ℕ} → verdict_by gaps t ≡ accepted → a ≡ lane_of A t → b ≡ lane_of B t → ys ≡ filled_to (length t.rows) t xs → Classed gaps t (Ok (record { a = a; b = b })) × BoundsIn gaps t xs ys
  accepted_right xs e ea eb h = (record { verdict = e; a = ea; b = eb }, rw e h)

  pub by_count : count_ok t.rows ≡ false → verdict_by gaps t ≡ refused 3 0
  by_count e = rw (checks gaps t, ranges gaps t, e) refl

  module _ (e : count_ok t.rows ≡ true) where
    pub by_header : header_ok t.header ≡ false → verdict_by gaps t ≡ refused 5 header_place
    by_header f = rw (checks gaps t, ranges gaps t, e, f) refl

    module _ (f : header_ok t.header ≡ true) {k : ℕ} (g : k ≡ passing (passes_by gaps) t.rows) where
      pub by_row : k < length t.rows → verdict_by gaps t ≡ refused 5 k
      by_row h = rw (checks gaps t, ranges gaps t, e, f, ← g, lt-leb _ _ h) refl

      pub in_range : length t.rows ≤ k → ranged_by gaps t ≡ accepted
      in_range h = rw (ranges gaps t, e, f, ← g, le-leb _ _ h) refl

  module _ (e : ranged_by gaps t ≡ accepted) where
    pub by_slopes : slopes_ok t ≡ false → verdict_by gaps t ≡ refused 8 0
    by_slopes f = rw (checks gaps t, e, f) refl

    pub by_shares_a : slopes_ok t ≡ true → shares_ok A t ≡ false → verdict_by gaps t ≡ refused 9 0
    by_shares_a f g = rw (checks gaps t, e, f, g) refl

    pub by_shares_b : slopes_ok t ≡ true → shares_ok A t ≡ true → shares_ok B t ≡ false → verdict_by gaps t ≡ refused 9 1
    by_shares_b f g h = rw (checks gaps t, e, f, g, h) refl

  module _ (p : Passed gaps t) {k : ℕ} (e : k ≡ passing (timely t) t.rows) where
    pub by_deadline : k < length t.rows → verdict_by gaps t ≡ refused 10 k
    by_deadline h = rw (checks gaps t, p.ranged, p.slopes, p.shares_a, p.shares_b, ← e, lt-leb _ _ h) refl

    module _ (h : length t.rows ≤ k) where
      pub by_room_a : room_ok A t ≡ false → verdict_by gaps t ≡ refused 20 0
      by_room_a f = rw (checks gaps t, p.ranged, p.slopes, p.shares_a, p.shares_b, ← e, le-leb _ _ h, f) refl

      pub by_room_b : room_ok A t ≡ true → room_ok B t ≡ false → verdict_by gaps t ≡ refused 20 1
      by_room_b f g = rw (checks gaps t, p.ranged, p.slopes, p.shares_a, p.shares_b, ← e, le-leb _ _ h, f, g) refl

      pub by_none : room_ok A t ≡ true → room_ok B t ≡ true → verdict_by gaps t ≡ accepted
      by_none f g = rw (checks gaps t, p.ranged, p.slopes, p.shares_a, p.shares_b, ← e, le-leb _ _ h, f, g) refl
