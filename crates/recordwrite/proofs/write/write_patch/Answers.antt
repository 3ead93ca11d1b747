-- `recordwrite::write::write_patch` meets its contract: where there is room each part is stored over what the one before has left.
use Rattle.recordwrite.proofs.Storage.{patch_put}
use Rattle.recordwrite.proofs.write.write_patch.Goals as goal

pub returns : goal.returns
returns c =
    patch_put c.args.out.now c.args.t c.args.last c.args.bounds c.if-out-lt-RECORD_SIZE.false c.put_table.ensures c.put_lasts.ensures c.put_bounds.ensures
