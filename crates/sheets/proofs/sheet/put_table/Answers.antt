-- `sheets::sheet::put_table` meets its contract. The loop's invariant: the rows passed stand, and those that are left make the text whole.
use Prim.Native.Nat.{◌<◌}
use mathlib.Core.Path.{refl, ◌∙◌}
use native.Mathlib.Omega.{arith}
use lib.ListN.{length-take}
use lib.Seq.{get_or-take}
use Rattle.table.specs.Rows.{no_row}
use Rattle.table.proofs.Laws.{places}
use Rattle.texts.proofs.Laws.{text_put}
use Rattle.sheets.proofs.Listing.{rows_few, none_yet, one_more, all_stand}
use Rattle.sheets.proofs.sheet.put_table.Goals as goal

pub shared_ref_as_front-rows : goal.shared_ref_as_front-rows
shared_ref_as_front-rows c = rows_few c.args.t (places c.args.t _ c.well_formed.1.0) c.requires.shown.verdict

pub loop-i-init : goal.loop-i-init
loop-i-init c =
    (omega arith, refl, none_yet c.args.t (places c.args.t _ c.well_formed.1.0) c.requires.shown.verdict (text_put (c.put-at.ensures.value, c.put-at.ensures.out_after) (omega arith)) (omega arith))

pub loop-i-preserved : goal.loop-i-preserved
loop-i-preserved c =
    let long = places c.args.t _ c.well_formed.1.0 in
    let in_use : c.loop-i.i < c.args.t.count = omega (arith, rw length-take at c.loop-i-test.true) in
    (omega arith, c.put_row-at.auto.out ∙ c.loop-i.invariant.1, one_more c.args.t long c.requires.shown.verdict c.requires.shown in_use c.loop-i.invariant.2 (omega (arith, c.loop-i.invariant.2.few, rows_few c.args.t long c.requires.shown.verdict)) (rw (get_or-take c.args.t.count c.args.t.rows c.loop-i.i no_row in_use) at c.put_row-at.ensures))

pub returns : goal.returns
returns c =
    let long = places c.args.t _ c.well_formed.1.0 in
    let few = rows_few c.args.t long c.requires.shown.verdict in
    all_stand c.args.t long c.requires.shown.verdict c.loop-i.invariant.2 (omega (arith, long, few, rw length-take at c.loop-i-test.false)) (omega (arith, few, rw length-take at c.loop-i.auto.i-end))
