-- `advances::numbers::fixed` meets its contract: its fields are those of the definition.
use Rattle.machine.specs.State.{view}
use Rattle.bytetime.specs.Ports.{fixed_of}
use Rattle.advances.proofs.Waiting.{more_is}
use Rattle.advances.proofs.numbers.fixed.Goals as goal

pub returns : goal.returns
unfolding view fixed_of
returns c = rw (c.head.ensures, c.head-2.ensures, c.head-3.ensures, more_is c.args.p.a.count c.args.p.a.frames, more_is c.args.p.b.count c.args.p.b.frames)
