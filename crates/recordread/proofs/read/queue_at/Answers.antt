-- `recordread::read::queue_at` meets its contract: as many frames are gathered as the count says.
use Rattle.words.proofs.Laws.{gathered_length}
use Rattle.recordbytes.specs.Layout.{frame_width}
use Rattle.recordbytes.specs.Record.{frame_at}
use Rattle.recordread.proofs.read.queue_at.Goals as goal

pub returns : goal.returns
returns g c = rw (c.frames_at-frames.ensures, c.word-count.ensures, gathered_length (frame_at _) frame_width _ _)
