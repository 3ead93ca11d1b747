-- Residences, bounds and counts as the code works them out, from a row and the two classes, are the definitions'.
use Prim.Native.Nat.{ℕ, ◌<◌}
use mathlib.Core.Bool.{Bool, true, false, cond, ◌&&◌}
use mathlib.Core.List.{List, [], ◌∷◌, map}
use mathlib.Core.Logic.{⊎_elim}
use mathlib.Core.Path.{◌≡◌, refl, sym}
use native.Mathlib.Nat.{eq-zero-or-pos}
use native.Mathlib.Omega.{arith}
use lib.Dec.{leb, eqb}
use lib.ListN.{length, get_or}
use borrow.Author.Tests.{eq-eqb, eqb-true, le-leb}
use Rattle.table.specs.declared.Class.{Class}
use Rattle.table.specs.declared.Class.TheVariants.{A, B}
use Rattle.table.specs.declared.Row.{Row}
use Rattle.figures.specs.declared.Lane.{Lane}
use Rattle.table.specs.Wire.{ceil_div, period_of}
use Rattle.table.specs.Rows.{no_row, is_there, Contents}
use Rattle.table.specs.Checks.{passing}
use Rattle.table.specs.Ranges.{Every}
use Rattle.table.proofs.Laws.{every_all}
use Rattle.planner.specs.Sums.{in_class, part, sum_over, members, idle}
use Rattle.planner.specs.Bound.{until_report, residence_in, residence, bound, most_of, if_there}
use Rattle.planner.specs.Opening.{used_ok, timely}
use Rattle.planner.specs.Plan.{lane_of, pick_lane}
use Rattle.figures.specs.Steps.{Modest, Ready, time_by}
use Rattle.planner.specs.Steps.{bound_by, timely_by, most_by, Lanes}
use Rattle.planner.proofs.Limits.{counted, summed}

picked : (k : Class) (t : Contents) {a b : Lane} → a ≡ lane_of A t → b ≡ lane_of B t → pick_lane k a b ≡ lane_of k t
picked A t ea eb = ea
picked B t ea eb = eb

modest : (k : Class) {a b : Lane} → Modest a → Modest b → Modest (pick_lane k a b)
modest A ma mb = ma
modest B ma mb = mb

used_both : (k : Class) (t : Contents) → used_ok A t ≡ true → used_ok B t ≡ true → used_ok k t ≡ true
used_both A t a b = a
used_both B t a b = b

-- a class with a row has an idle slope
class_used : (k : Class) (t : Contents) → used_ok k t ≡ true → 0 < members k t → 0 < idle k t
unfolding used_ok
class_used k t e m =
    ⊎_elim
    (λ z.
    let none : eqb (members k t) 0 ≡ true = rw (eq-eqb (idle k t) 0 z) at e in
    absurd (omega (arith, eqb-true (members k t) 0 none)))
    (λ p. p)
    (eq-zero-or-pos (idle k t))

-- at an empty number a residence of 0 comes to what the definitions say: a bound of 0, in time, and no frames
until : (b : Bool) (n : ℕ) → until_report (cond b n 0) ≡ cond b (until_report n) 0
until true n = refl
until false n = refl

within : (b : Bool) (n d : ℕ) → cond b (leb n d) true ≡ leb (cond b n 0) d
within true n d = refl
within false n d = sym (le-leb 0 d (omega arith))

counted_part : (a b : Bool) (n p : ℕ) → cond (a && b) (ceil_div (cond b n 0) p) 0 ≡ cond (a && b) (ceil_div n p) 0
counted_part true true n p = refl
counted_part true false n p = refl
counted_part false b n p = refl

module _ (t : Contents) {a b : Lane} (lanes : Lanes t a b) where
  is_lane : (r : Row) → pick_lane r.class a b ≡ lane_of r.class t
  is_lane r = picked r.class t lanes.is_a lanes.is_b_lem

  -- each row that is there is among those that its class's numbers are made of
  ready : (k : ℕ) → k < length t.rows → Ready (get_or t.rows k no_row) a b
  ready k h there =
      let r = get_or t.rows k no_row in (
        modest r.class lanes.modest_a lanes.modest_b,
        (rw (is_lane r) (class_used r.class t (used_both r.class t lanes.used_a lanes.used_b) (counted t k h there)), rw (is_lane r) (summed t k h there)),
      )

  pub all_ready : Every (λ r. Ready r a b) t.rows
  all_ready = every_all (λ r. Ready r a b) t.rows ready

  time_is : (r : Row) → time_by a b r ≡ if_there (residence t) r
  unfolding residence residence_in
  time_is r = rw (is_lane r) refl

  -- what the classes make of a row is what the definitions say
  bound_is : (r : Row) → bound_by a b r ≡ if_there (bound t) r
  unfolding bound
  bound_is r = rw (time_is r) (until (is_there r) (residence t r))

  timely_is : (r : Row) → timely_by a b r ≡ timely t r
  unfolding timely
  timely_is r = rw (bound_is r) (sym (within (is_there r) (bound t r) r.deadline))

  most_is : (c : Class) (r : Row) → part c (most_by a b) r ≡ part c (most_of t) r
  unfolding most_of
  most_is c r = rw (time_is r) (counted_part (in_class c r) (is_there r) (residence t r) (period_of r))

  pub passing_is : (rs : List Row) → passing (timely_by a b) rs ≡ passing (timely t) rs
  unfolding passing
  passing_is [] = refl
  passing_is (r ∷ rs) = rw (timely_is r, passing_is rs) refl

  pub sum_is : (c : Class) (rs : List Row) → sum_over c (most_by a b) rs ≡ sum_over c (most_of t) rs
  unfolding sum_over
  sum_is c [] = refl
  sum_is c (r ∷ rs) = rw (most_is c r, sum_is c rs) refl

  pub bounds_are : (rs : List Row) → map (bound_by a b) rs ≡ map (if_there (bound t)) rs
  bounds_are [] = refl
  bounds_are (r ∷ rs) = rw (bound_is r, bounds_are rs) refl
