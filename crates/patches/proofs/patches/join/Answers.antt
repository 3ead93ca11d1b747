-- `patches::patches::join` meets its contract: the record check says what `judge_join` is told, and its patch is carried out.
use Rattle.machine.specs.Calls.{join}
use Rattle.patches.proofs.patches.join.Goals as goal

pub returns : goal.returns
returns c = c.patched.ensures (join c.args.number c.args.row) (c.judge_join.ensures c.is_sound.ensures)
