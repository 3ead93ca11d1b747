-- `planner::acceptance::fair_classes` meets its contract: each return is the first check that fails, and what passes them all makes the table's classes.
use Prim.Native.Nat.{◌≤◌, ◌<◌}
use mathlib.Core.Bool.{Bool, true, false}
use mathlib.Core.Path.{◌≡◌, refl, sym, ◌∙◌, ap}
use lib.Dec.{leb}
use borrow.Author.Tests.{le-leb, lt-leb}
use Rattle.table.specs.declared.Class.{Class}
use Rattle.table.specs.declared.Class.TheVariants.{A, B}
use Rattle.table.specs.declared.Refusal.TheVariants.{Slopes, Shares}
use Rattle.table.specs.Rows.{Contents}
use Rattle.figures.specs.declared.Figures.{Figures}
use Rattle.figures.specs.declared.Lane.{Lane}
use Rattle.planner.specs.Sums.{idle, best_size}
use Rattle.planner.specs.Bound.{blocking}
use Rattle.planner.specs.Opening.{used_ok, slopes_ok, shares_ok}
use Rattle.planner.specs.Plan.{lane_of}
use Rattle.figures.specs.Steps.{slopes_by, lane_a, lane_b}
use Rattle.planner.specs.Steps.{figures_of}
use Rattle.planner.proofs.Checks.{ranged_by_lem, slope_limits}
use Rattle.planner.proofs.Verdicts.{refused_right, by_slopes, by_shares_a, by_shares_b}
use Rattle.planner.proofs.acceptance.fair_classes.Goals as goal

-- the figures of the table's classes make the table's lanes
is_a : (t : Contents) {a b : Figures} {l : Lane} → a ≡ figures_of A t → b ≡ figures_of B t → l ≡ lane_a t.header a b → l ≡ lane_of A t
unfolding blocking best_size
is_a t ea eb e = rw (e, ea, eb) refl

is_b_lem : (t : Contents) {a b : Figures} {l : Lane} → a ≡ figures_of A t → b ≡ figures_of B t → l ≡ lane_b t.header a b → l ≡ lane_of B t
unfolding blocking best_size
is_b_lem t ea eb e = rw (e, ea, eb) refl

slopes : (t : Contents) {a b : Figures} {u v : Bool} → a ≡ figures_of A t → b ≡ figures_of B t → u ≡ slopes_by t.header a b → u ≡ v → slopes_ok t ≡ v
unfolding slopes_ok used_ok
slopes t ea eb e f = rw (ea, eb) at (sym e ∙ f)

above : (k : Class) (t : Contents) {f : Figures} → f ≡ figures_of k t → idle k t < f.shares → shares_ok k t ≡ false
unfolding shares_ok
above k t {f} e h = ap (λ (g : Figures). leb g.shares (idle k t)) (sym e) ∙ lt-leb f.shares (idle k t) h

within : (k : Class) (t : Contents) {f : Figures} → f ≡ figures_of k t → f.shares ≤ idle k t → shares_ok k t ≡ true
unfolding shares_ok
within k t {f} e h = ap (λ (g : Figures). leb g.shares (idle k t)) (sym e) ∙ le-leb f.shares (idle k t) h

pub returns-then-not-slopes_ok : goal.returns-then-not-slopes_ok
returns-then-not-slopes_ok c =
    let p = refused_right _ _ _ Slopes (by_slopes c.args.gaps _ c.requires.t_value (slopes _ c.requires.summed.is_a c.requires.summed.is_b_lem c.slopes_ok.ensures c.if-not-slopes_ok.true)) refl in record { classed = p.0; bounds = p.1 }

pub returns-then-from-sums : goal.returns-then-from-sums
returns-then-from-sums c =
    let p = refused_right _ _ _ (Shares A) (by_shares_a c.args.gaps _ c.requires.t_value (slopes _ c.requires.summed.is_a c.requires.summed.is_b_lem c.slopes_ok.ensures c.if-not-slopes_ok.false) (above A _ c.requires.summed.is_a (rw c.from.ensures at c.if-from-sums.true))) refl in record { classed = p.0; bounds = p.1 }

pub returns-then-from-sums-2 : goal.returns-then-from-sums-2
returns-then-from-sums-2 c =
    let p = refused_right _ _ _ (Shares B) (by_shares_b c.args.gaps _ c.requires.t_value (slopes _ c.requires.summed.is_a c.requires.summed.is_b_lem c.slopes_ok.ensures c.if-not-slopes_ok.false) (within A _ c.requires.summed.is_a (rw c.from.ensures at c.if-from-sums.false)) (above B _ c.requires.summed.is_b_lem (rw c.from-2.ensures at c.if-from-sums-2.true))) refl in record { classed = p.0; bounds = p.1 }

pub lane_a-requires : goal.lane_a-requires
lane_a-requires c =
    record { idlea_le_most_slope = (ranged_by_lem c.args.gaps _ c.requires.t_value).idlea; small = c.requires.summed.small_a; small_2 = c.requires.summed.small_b }

pub lane_b-requires : goal.lane_b-requires
lane_b-requires c =
    let r = ranged_by_lem c.args.gaps _ c.requires.t_value in
    record { idlea_le_most_slope = r.idlea; idleb_le_most_slope = r.idleb; small = c.requires.summed.small_a; small_2 = c.requires.summed.small_b }

pub timely_classes-requires : goal.timely_classes-requires
timely_classes-requires c =
    let u = slope_limits _ (slopes _ c.requires.summed.is_a c.requires.summed.is_b_lem c.slopes_ok.ensures c.if-not-slopes_ok.false) in record {
      places = c.requires.places;
      lanes = record {
        is_a = is_a _ c.requires.summed.is_a c.requires.summed.is_b_lem c.lane_a.ensures.value;
        is_b_lem = is_b_lem _ c.requires.summed.is_a c.requires.summed.is_b_lem c.lane_b.ensures.value;
        modest_a = c.lane_a.ensures.modest;
        modest_b = c.lane_b.ensures.modest;
        used_a = u.0;
        used_b = u.1;
      };
      passed = record { ranged = c.requires.t_value; slopes = slopes _ c.requires.summed.is_a c.requires.summed.is_b_lem c.slopes_ok.ensures c.if-not-slopes_ok.false; shares_a = within A _ c.requires.summed.is_a (rw c.from.ensures at c.if-from-sums.false); shares_b = within B _ c.requires.summed.is_b_lem (rw c.from-2.ensures at c.if-from-sums-2.false) };
    }
