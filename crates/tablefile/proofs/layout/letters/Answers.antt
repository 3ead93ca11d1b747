-- `tablefile::layout::letters` meets its contract, edition by edition.
use mathlib.Core.Path.{sym, ap}
use Rattle.tablefile.specs.Layout as layout
use Rattle.tablefile.proofs.layout.letters.Goals as goal

pub returns-in-Avb1 : goal.returns-in-Avb1
returns-in-Avb1 c = ap layout.letters (sym c.in-Avb1.is)

pub returns-in-Avb2 : goal.returns-in-Avb2
returns-in-Avb2 c = ap layout.letters (sym c.in-Avb2.is)
