-- `patches::patches::leave` meets its contract: the record check says what `judge_leave` is told, and its patch is carried out.
use Rattle.machine.specs.Calls.{leave}
use Rattle.patches.proofs.patches.leave.Goals as goal

pub returns : goal.returns
returns c = c.patched.ensures (leave c.args.number) (c.judge_leave.ensures c.is_sound.ensures)
