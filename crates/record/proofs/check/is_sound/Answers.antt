-- `record::check::is_sound` meets its contract: the planner's verdict is the first clause, the last row tells the second, and its bounds the third; its classes are the
-- definitions', and the order of the frames says whether the rest holds.
use Prim.Native.Nat.{ℕ}
use mathlib.Core.Bool.{Bool, true, not, ◌&&◌}
use mathlib.Core.List.{List, [], ◌∷◌, ◌++◌}
use mathlib.Core.Path.{◌≡◌, refl, sym, ◌∙◌, ap}
use native.Mathlib.Omega.{arith}
use lib.Dec.{eqb}
use lib.Pointwise.{pointwise}
use lib.ListN.{length, drop, take, replicate, length-take}
use Rattle.table.specs.declared.Class.TheVariants.{A, B}
use Rattle.table.specs.Limits.{most_rows}
use Rattle.table.specs.Rows.{contents}
use Rattle.table.specs.Checks.{accepted}
use Rattle.table.proofs.Laws.{fails, holds}
use Rattle.planner.specs.Bound.{bounds_of}
use Rattle.planner.specs.Opening.{standing}
use Rattle.planner.specs.Plan.{lane_of}
use Rattle.planner.proofs.Laws.{all_filled}
use Rattle.machine.specs.State.{view}
use Rattle.machine.specs.Record.{same_numbers, count_sound, bounds_sound}
use Rattle.machine.proofs.Places.{Places}
use Rattle.record.proofs.Parts.{refused, miscounted, unbounded}
use Rattle.record.proofs.Viewed.{few, some, bounds_made, accepted_table, refused_table, by_highest, by_bounds}
use Rattle.record.proofs.check.is_sound.Goals.{In-Ok, Else-not-is_there, After-ne}
use Rattle.record.proofs.check.is_sound.Goals as goal

-- an accepted table: the record's places, and what the planner says
places : (c : In-Ok) → Places c.args.p.now
places c = c.placed.ensures

planned : (c : In-Ok) → let t = contents c.args.p.now.table in let r = c.in-Ok.made in (standing t ≡ accepted) × ((r.a ≡ lane_of A t) × (r.b ≡ lane_of B t))
planned c = let made = c.in-Ok.ensures.classed in (made.verdict, (made.a, made.b))

-- and its bounds
filled : (c : In-Ok) → let t = contents c.args.p.now.table in c.classes.new.out ≡ bounds_of t ++ drop (length t.rows) (replicate most_rows 0)
filled c = all_filled true (contents c.args.p.now.table) _ c.classes.ensures.bounds (planned c).0

-- its last row is there
counted : (c : Else-not-is_there) → count_sound (view c.args.p.now) ≡ true
counted c =
    let o = c.in-Ok.ensures.classed.verdict in
    holds (by_highest c.args.p.now c.placed.ensures o c.is_there.ensures) (ap not c.if-not-is_there.false)

-- and its bounds are those that are kept, or not
same : (xs ys : List ℕ) → pointwise eqb xs ys ≡ same_numbers xs ys
same [] [] = refl
same [] (y ∷ ys) = refl
same (x ∷ xs) [] = refl
same (x ∷ xs) (y ∷ ys) = ap (λ (b : Bool). eqb x y && b) (same xs ys)

bounded : (c : After-ne) → pointwise eqb (take c.args.p.now.table.count c.args.p.now.bounds) (take c.args.p.now.table.count c.classes.new.out) ≡ bounds_sound (view c.args.p.now)
bounded c =
    let o = c.in-Ok.ensures.classed.verdict in
    let f = all_filled true (contents c.args.p.now.table) _ c.classes.ensures.bounds o in
    by_bounds c.args.p.now c.placed.ensures o _ _ f (same (take c.args.p.now.table.count c.args.p.now.bounds) (take c.args.p.now.table.count c.classes.new.out))

pub returns-in_default : goal.returns-in_default
returns-in_default c = refused (view c.args.p.now) (refused_table c.args.p.now c.in_default.field-0 c.in_default.ensures.classed)

pub overflow_sub-highest : goal.overflow_sub-highest
overflow_sub-highest c = some c.args.p.now.table (planned (goal.at.overflow_sub-highest c).In-Ok).0

pub offset_bounds-t-n : goal.offset_bounds-t-n
offset_bounds-t-n c = omega (arith, few c.args.p.now.table (planned (goal.at.offset_bounds-t-n c).In-Ok).0)

pub bounds-t-n : goal.bounds-t-n
bounds-t-n c = omega (arith, few c.args.p.now.table (planned (goal.at.bounds-t-n c).In-Ok).0, some c.args.p.now.table (planned (goal.at.bounds-t-n c).In-Ok).0)

pub returns-then-not-is_there : goal.returns-then-not-is_there
returns-then-not-is_there c =
    let p = c.args.p.now in
    miscounted (view p) (accepted_table p (planned (goal.at.returns-then-not-is_there c).In-Ok).0) (fails (by_highest p (places (goal.at.returns-then-not-is_there c).In-Ok) (planned (goal.at.returns-then-not-is_there c).In-Ok).0 c.is_there.ensures) (ap not c.if-not-is_there.true))

pub slice_bounds-kept-end : goal.slice_bounds-kept-end
slice_bounds-kept-end c = omega (arith, few c.args.p.now.table (planned (goal.at.slice_bounds-kept-end c).In-Ok).0)

pub slice_bounds-ne-end : goal.slice_bounds-ne-end
slice_bounds-ne-end c =
    omega (arith, few c.args.p.now.table (planned (goal.at.slice_bounds-ne-end c).In-Ok).0, length-take c.args.p.now.table.count c.args.p.now.bounds, (places (goal.at.slice_bounds-ne-end c).In-Ok).bounds)

pub slice_bounds-out-end : goal.slice_bounds-out-end
slice_bounds-out-end c = omega (arith, few c.args.p.now.table (planned (goal.at.slice_bounds-out-end c).In-Ok).0)

pub slice_bounds-ne-end-2 : goal.slice_bounds-ne-end-2
slice_bounds-ne-end-2 c =
    omega (arith, few c.args.p.now.table (planned (goal.at.slice_bounds-ne-end-2 c).In-Ok).0, length-take c.args.p.now.table.count c.classes.new.out, c.classes.array_long)

pub returns-then-ne : goal.returns-then-ne
returns-then-ne c =
    let p = c.args.p.now in
    unbounded (view p) (accepted_table p (planned (goal.at.returns-then-ne c).In-Ok).0) (counted (goal.at.returns-then-ne c).Else-not-is_there) (fails (bounded (goal.at.returns-then-ne c).After-ne) (sym c.ne.ensures ∙ c.if-ne.true))

pub parts_order-requires : goal.parts_order-requires
parts_order-requires c =
    let m = planned (goal.at.parts_order-requires c).In-Ok in
    record { places = places (goal.at.parts_order-requires c).In-Ok; table_value = m.0; a_value = m.1.0; b_value = m.1.1; p_value = counted (goal.at.parts_order-requires c).Else-not-is_there; p_value_2 = holds (bounded (goal.at.parts_order-requires c).After-ne) (sym c.ne.ensures ∙ c.if-ne.false); bounded = bounds_made c.args.p.now _ _ (filled (goal.at.parts_order-requires c).In-Ok) }

pub returns-in-Broken : goal.returns-in-Broken
returns-in-Broken c = sym (rw c.in-Broken.is at c.parts_order.ensures)

pub returns-in-Rising : goal.returns-in-Rising
returns-in-Rising c = sym (rw c.in-Rising.is at c.parts_order.ensures)

pub returns-in-Mixed : goal.returns-in-Mixed
returns-in-Mixed c = c.all_spread.ensures ∙ sym (rw c.in-Mixed.is at c.parts_order.ensures)
