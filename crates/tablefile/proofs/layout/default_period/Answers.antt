-- `tablefile::layout::default_period` meets its contract: in either case the period is that of the class.
use mathlib.Core.Path.{sym, ap}
use Rattle.tablefile.specs.Layout.{period_for, default_period}
use Rattle.tablefile.proofs.layout.default_period.Goals as goal

pub returns-in-A : goal.returns-in-A
unfolding default_period
returns-in-A c = ap period_for (sym c.in-A.is)

pub returns-in-B : goal.returns-in-B
unfolding default_period
returns-in-B c = ap period_for (sym c.in-B.is)
