-- `recordparts::parts::put_wire` meets its contract: a wire that sends is a mark of 1, the frame and its bytes left, one behind the other.
use Rattle.recordparts.proofs.Storage.{sending_put}
use Rattle.recordparts.proofs.parts.put_wire.Goals as goal

pub returns-in-Sending : goal.returns-in-Sending
returns-in-Sending c = sending_put _ _ c.in-Sending.is c.put_word-in-Sending.ensures c.put_frame.ensures c.put_word-in-Sending-2.ensures
