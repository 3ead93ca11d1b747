-- `tablefile::layout::default_deadline` meets its contract: the default is the row's period.
use Rattle.tablefile.specs.Layout.{default_deadline}
use Rattle.tablefile.proofs.layout.default_deadline.Goals as goal

pub returns : goal.returns
unfolding default_deadline
returns c = c.period.ensures.value
