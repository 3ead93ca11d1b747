-- `recordread::fits::rows_fit` meets its contract: each of its rows is tested.
use Rattle.rowbytes.specs.Row.{row_width, row_fits}
use Rattle.recordbytes.specs.Layout.{rows_start}
use Rattle.std.proofs.Common.{rules}
use borrow.Author.Tests.{tests}
use Rattle.recordread.proofs.Tests.{all_fit}
use Rattle.recordread.proofs.fits.rows_fit.Goals as goal

pub returns : goal.returns
returns c = all_fit (row_fits c.args.s.now) row_width rows_start c.args.n c.all.ensures.ran (λ x b q h. search (rules, tests))
