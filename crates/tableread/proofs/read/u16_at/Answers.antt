-- `tableread::read::u16_at` meets its contract: the library's value of two bytes is the layout's.
use mathlib.Core.Path.{◌∙◌}
use Rattle.tableread.proofs.Values.{two_bytes}
use Rattle.tableread.proofs.read.u16_at.Goals as goal

pub returns : goal.returns
returns c = c.from_be_bytes.ensures ∙ two_bytes c.args.s.now c.args.at c.byte.ensures c.byte-2.ensures
