-- `patches::tables::top` meets its contract: from the top down, a row that is not there is trimmed, and the first that is there ends it.
use Prim.Native.Nat.{◌+◌, ◌-◌}
use mathlib.Core.Path.{◌≡◌, refl, sym, ◌∙◌}
use native.Mathlib.Omega.{arith}
use Rattle.table.proofs.Laws as table
use Rattle.patches.proofs.Places.{top_there, top_empty, top_none}
use Rattle.patches.proofs.tables.top.Goals as goal

pub loop-i-init : goal.loop-i-init
loop-i-init c = (omega arith, c.requires, refl)

pub returns-then-is_there : goal.returns-then-is_there
returns-then-is_there c =
    let e : c.loop-i.i - 1 + 1 ≡ c.loop-i.i = omega arith in
    e ∙ top_there c.args.t c.args.n c.loop-i.i c.loop-i-test.true (rw (table.places c.args.t _ c.well_formed.0) (omega arith)) (sym c.is_there.ensures ∙ c.if-is_there.true) c.loop-i.invariant.2

pub loop-i-preserved : goal.loop-i-preserved
loop-i-preserved c =
    (omega arith, omega arith, top_empty c.args.t c.args.n c.loop-i.i c.loop-i-test.true (rw (table.places c.args.t _ c.well_formed.0) (omega arith)) (sym c.is_there.ensures ∙ c.if-is_there.false) c.loop-i.invariant.2)

pub returns : goal.returns
returns c =
    let z : 0 ≡ c.loop-i.i = omega arith in
    z ∙ top_none c.args.t c.args.n c.loop-i.i (omega arith) c.loop-i.invariant.2
