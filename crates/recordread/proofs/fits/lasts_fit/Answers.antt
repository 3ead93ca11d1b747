-- `recordread::fits::lasts_fit` meets its contract: the mark of each number is tested.
use Prim.Native.Nat.{◌+◌, ◌*◌}
use mathlib.Core.Path.{◌≡◌}
use native.Mathlib.Omega.{arith}
use Rattle.recordbytes.specs.Record.{mark_fits}
use Rattle.std.proofs.Common.{rules}
use borrow.Author.Tests.{tests}
use Rattle.recordread.proofs.Tests.{all_fit}
use Rattle.recordread.proofs.fits.lasts_fit.Goals as goal

pub returns : goal.returns
returns c = all_fit (mark_fits c.args.s.now) 1 0 c.args.n c.all.ensures.ran (λ x b q h. let z : 0 + 1 * x ≡ x = omega arith in rw z (search (rules, tests)))
