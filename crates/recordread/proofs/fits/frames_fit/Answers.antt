-- `recordread::fits::frames_fit` meets its contract: each of its frames is tested.
use Rattle.recordbytes.specs.Layout.{frame_width}
use Rattle.recordbytes.specs.Record.{frame_fits}
use Rattle.std.proofs.Common.{rules}
use borrow.Author.Tests.{tests}
use Rattle.recordread.proofs.Tests.{all_fit}
use Rattle.recordread.proofs.fits.frames_fit.Goals as goal

pub returns : goal.returns
returns c = all_fit (frame_fits c.args.s.now) frame_width c.args.k c.args.n c.all.ensures.ran (λ x b q h. search (rules, tests))
