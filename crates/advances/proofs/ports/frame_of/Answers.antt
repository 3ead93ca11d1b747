-- `advances::ports::frame_of` meets its contract: no head has moved.
use Rattle.machine.specs.State.{view}
use Rattle.advances.proofs.ports.frame_of.Goals as goal

pub returns-else-h : goal.returns-else-h
unfolding view
returns-else-h c = rw (c.if-h.false, c.frame_on.ensures)
