-- `planner::acceptance::timely_classes` meets its contract: with the other checks passed, the first late row decides, and then a class with more frames than places. Past them all
-- each row has its bound.
use Prim.Native.Nat.{ℕ, ◌≤◌, ◌<◌}
use mathlib.Core.Bool.{Bool, true, false}
use mathlib.Core.List.{List, ◌++◌}
use mathlib.Core.Path.{◌≡◌, refl, sym, ◌∙◌, ap}
use native.Mathlib.Omega.{arith}
use borrow.Author.Tests.{le-leb, lt-leb}
use lib.ListN.{length, take, drop, length-take}
use Rattle.table.specs.declared.Class.{Class}
use Rattle.table.specs.declared.Class.TheVariants.{A, B}
use Rattle.table.specs.declared.Table.{Table}
use Rattle.table.specs.declared.Refusal.TheVariants.{Deadline, Frames}
use Rattle.table.specs.Limits.{most_rows, class_places}
use Rattle.table.specs.Rows.{Contents, rows_of, contents}
use Rattle.table.specs.Checks.{passing}
use Rattle.table.specs.Ranges.{Every}
use Rattle.figures.specs.declared.Lane.{Lane}
use Rattle.figures.specs.Steps.{Ready}
use Rattle.table.proofs.Laws.{rows_length, rows_are, passing_most}
use Rattle.planner.specs.Sums.{sum_over}
use Rattle.planner.specs.Bound.{most_in}
use Rattle.planner.specs.Opening.{timely, room_ok}
use Rattle.planner.specs.Plan.{filled_to}
use Rattle.planner.specs.Steps.{Passed, Lanes, timely_by, most_by, filled_by}
use Rattle.planner.proofs.Checks.{ranged_by_lem}
use Rattle.planner.proofs.Worked.{all_ready, passing_is, sum_is, bounds_are}
use Rattle.planner.proofs.Verdicts.{refused_right, handed_on, accepted_right, by_deadline, by_room_a, by_room_b, by_none}
use Rattle.planner.proofs.acceptance.timely_classes.Goals as goal

crowded : (c : Class) (t : Contents) {n : ℕ} → n ≡ most_in c t → class_places < n → room_ok c t ≡ false
unfolding room_ok
crowded c t e h = rw (← e) (lt-leb _ _ h)

roomy : (c : Class) (t : Contents) {n : ℕ} → n ≡ most_in c t → n ≤ class_places → room_ok c t ≡ true
unfolding room_ok
roomy c t e h = rw (← e) (le-leb _ _ h)

few : (gaps : Bool) (t : Table) → Passed gaps (contents t) → t.count ≤ most_rows
few gaps t p = rw (rows_length t) at (ranged_by_lem gaps (contents t) p.ranged).most

-- where no row is late the bounds of all stand in their places
all_filled : (t : Contents) (xs : List ℕ) {ys : List ℕ} → length t.rows ≤ passing (timely t) t.rows → ys ≡ filled_to (passing (timely t) t.rows) t xs → ys ≡ filled_to (length t.rows) t xs
all_filled t xs h f = let all : passing (timely t) t.rows ≡ length t.rows = omega (arith, passing_most (timely t) t.rows) in f ∙ ap (λ (n : ℕ). filled_to n t xs) all

-- what is judged of the rows by the two classes is what the definitions say of the table
module _ (t : Table) (long : length t.rows ≡ 32) (h : t.count ≤ most_rows) {a b : Lane} (lanes : Lanes (contents t) a b) where
  own : rows_of t ≡ take t.count t.rows
  own = rows_are t (rw long h)

  found : passing (timely_by a b) (take t.count t.rows) ≡ passing (timely (contents t)) (rows_of t)
  found = ap (passing (timely_by a b)) (sym own) ∙ passing_is (contents t) lanes (rows_of t)

  bounds : (xs : List ℕ) {ys : List ℕ} → ys ≡ filled_by a b (take t.count t.rows) (passing (timely_by a b) (take t.count t.rows)) xs → ys ≡ filled_to (passing (timely (contents t)) (rows_of t)) (contents t) xs
  bounds xs f =
      rw (found, ← own) at f ∙ ap (λ (zs : List ℕ). zs ++ drop (passing (timely (contents t)) (rows_of t)) xs) (bounds_are (contents t) lanes (take (passing (timely (contents t)) (rows_of t)) (rows_of t)))

  late : passing (timely_by a b) (take t.count t.rows) < length (take t.count t.rows) → passing (timely (contents t)) (rows_of t) < length (rows_of t)
  late l = rw (found, ← own) at l

  timely_all : length (take t.count t.rows) ≤ passing (timely_by a b) (take t.count t.rows) → length (rows_of t) ≤ passing (timely (contents t)) (rows_of t)
  timely_all l = rw (found, ← own) at l

  crowd : (c : Class) {n : ℕ} → n ≡ sum_over c (most_by a b) (take t.count t.rows) → n ≡ most_in c (contents t)
  unfolding most_in
  crowd c e = rw (← own) at e ∙ sum_is (contents t) lanes c (rows_of t)

  all_ready_of : Every (λ r. Ready r a b) (take t.count t.rows)
  all_ready_of = rw (← own) (all_ready (contents t) lanes)

pub shared_ref_as_front-judged : goal.shared_ref_as_front-judged
shared_ref_as_front-judged c = few _ _ c.requires.passed

pub judged-requires : goal.judged-requires
judged-requires c =
    let h = few _ _ c.requires.passed in
    record { few = simp length-take (omega arith); ready = all_ready_of c.args.t.now c.requires.places h c.requires.lanes }

pub returns-in_err-found : goal.returns-in_err-found
returns-in_err-found c =
    let t = c.args.t.now in
    let long = c.requires.places in
    let h = few _ _ c.requires.passed in
    let judged = c.in_err-found.ensures in
    let p = handed_on c.args.gaps (contents t) _ c.from_residual.result (Deadline _) c.from_residual.ensures.1 (judged.judgement_of.1 ∙ ap Deadline (found t long h c.requires.lanes)) (by_deadline _ _ c.requires.passed refl (late t long h c.requires.lanes judged.judgement_of.0)) (bounds t long h c.requires.lanes _ judged.bounds) in
    record { classed = p.0; bounds = p.1 }

pub returns-then-found : goal.returns-then-found
returns-then-found c =
    let t = c.args.t.now in
    let long = c.requires.places in
    let h = few _ _ c.requires.passed in
    let judged = c.in_ok-found.ensures in
    let all = timely_all t long h c.requires.lanes judged.judgement_of.timely in
    let p = refused_right _ _ _ (Frames A) (by_room_a _ _ c.requires.passed refl all (crowded A _ (crowd t long h c.requires.lanes A judged.judgement_of.ofa) c.if-found.true)) (all_filled _ _ all (bounds t long h c.requires.lanes _ judged.bounds)) in
    record { classed = p.0; bounds = p.1 }

pub returns-then-found-2 : goal.returns-then-found-2
returns-then-found-2 c =
    let t = c.args.t.now in
    let long = c.requires.places in
    let h = few _ _ c.requires.passed in
    let judged = c.in_ok-found.ensures in
    let all = timely_all t long h c.requires.lanes judged.judgement_of.timely in
    let room = roomy A _ (crowd t long h c.requires.lanes A judged.judgement_of.ofa) c.if-found.false in
    let p = refused_right _ _ _ (Frames B) (by_room_b _ _ c.requires.passed refl all room (crowded B _ (crowd t long h c.requires.lanes B judged.judgement_of.ofb) c.if-found-2.true)) (all_filled _ _ all (bounds t long h c.requires.lanes _ judged.bounds)) in
    record { classed = p.0; bounds = p.1 }

pub returns : goal.returns
returns c =
    let t = c.args.t.now in
    let long = c.requires.places in
    let h = few _ _ c.requires.passed in
    let judged = c.in_ok-found.ensures in
    let all = timely_all t long h c.requires.lanes judged.judgement_of.timely in
    let room = roomy A _ (crowd t long h c.requires.lanes A judged.judgement_of.ofa) c.if-found.false in
    let room_b = roomy B _ (crowd t long h c.requires.lanes B judged.judgement_of.ofb) c.if-found-2.false in
    let p = accepted_right _ _ _ (by_none _ _ c.requires.passed refl all room room_b) c.requires.lanes.is_a c.requires.lanes.is_b_lem (all_filled _ _ all (bounds t long h c.requires.lanes _ judged.bounds)) in
    record { classed = p.0; bounds = p.1 }
