-- `tableread::read::u32_at` meets its contract: the library's value of four bytes is the layout's.
use mathlib.Core.Path.{◌∙◌}
use Rattle.tableread.proofs.Values.{four_bytes}
use Rattle.tableread.proofs.read.u32_at.Goals as goal

pub returns : goal.returns
returns c = c.from_be_bytes.ensures ∙ four_bytes c.args.s.now c.args.at c.byte.ensures c.byte-2.ensures c.byte-3.ensures c.byte-4.ensures
