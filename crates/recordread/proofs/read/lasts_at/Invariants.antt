-- `recordread::read::lasts_at` meets its contract: after i turns the first i are in their places.
use Prim.Native.Nat.{◌≤◌}
use mathlib.Core.Path.{◌≡◌}
use lib.ListN.{length, take}
use Rattle.std.specs.declared.option.Option.TheVariants.{None}
use Rattle.table.specs.Limits.{most_rows}
use Rattle.machine.specs.State.{placed}
use Rattle.recordread.proofs.Named.{named}
use Rattle.recordread.proofs.read.lasts_at.Given as goal

abbrev pub invariant-loop-i : goal.invariant-loop-i
invariant-loop-i l = (l.i ≤ l.n) × (length l.lasts ≡ most_rows) × (l.lasts ≡ placed most_rows None (take l.i (named l.s l.n)))
