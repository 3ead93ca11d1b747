-- `tablewrite::write::put` meets its contract: the bytes stand in the place of as many.
use native.Mathlib.Omega.{arith}
use Rattle.tablewrite.proofs.Stores.{part_over}
use Rattle.tablewrite.proofs.write.put.Goals as goal

pub returns : goal.returns
returns c = part_over c.args.at c.args.out.now c.args.bytes.now (omega arith) c.copy_from_slice.ensures.after c.requires
