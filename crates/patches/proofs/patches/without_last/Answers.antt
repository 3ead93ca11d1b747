-- `patches::patches::without_last` meets its contract, by whether a number is cleared and has a place.
use mathlib.Core.Path.{refl}
use borrow.Author.Tests.{lt-ltb, le-ltb}
use Rattle.table.specs.Limits.{most_rows}
use Rattle.patches.proofs.patches.without_last.Goals as goal

pub returns-then-k-lt-ROWS : goal.returns-then-k-lt-ROWS
returns-then-k-lt-ROWS c = rw (c.in-Some.is, lt-ltb c.in-Some.k most_rows c.if-k-lt-ROWS.true) refl

pub returns-else-k-lt-ROWS : goal.returns-else-k-lt-ROWS
returns-else-k-lt-ROWS c = rw (c.in-Some.is, le-ltb c.in-Some.k most_rows c.if-k-lt-ROWS.false) refl

pub returns-in_default : goal.returns-in_default
returns-in_default c = rw c.in_default.is refl
