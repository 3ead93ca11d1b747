-- `lent_rows::rows::bounds` meets its contract: the empty table has the first 0 rows, a pushed row is one more, and the table of the rows that are read gets the answer of the list.
use Rattle.std.proofs.Common.{◌≡◌, min, length, arith}
use Rattle.lent_rows.specs.Steps.{enough}
use Rattle.lent_rows.proofs.Loads.{none, all_read}
use Rattle.lent_rows.proofs.rows.bounds.Goals as goal

pub loop-i-init : goal.loop-i-init
loop-i-init c = (omega arith, rw c.empty-t.ensures (none c.args.header c.args.rows.now))

pub returns : goal.returns
returns c =
    let e : c.loop-i.i ≡ min (length c.args.rows.now) enough = omega (arith, c.read_upto-n.ensures) in
    all_read c.args.header c.args.rows.now c.loop-i.t c.bounds.result (rw e at c.loop-i.invariant.1) c.bounds.ensures
