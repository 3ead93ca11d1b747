-- `recordread::read::frame_at` meets its contract: the row and the size are cut to their fields, and the instant is its whole word.
use Rattle.recordread.proofs.read.frame_at.Goals as goal

pub returns : goal.returns
returns c = rw (c.word.ensures, c.u32_at-2.ensures, c.u32_at.ensures)
