-- `tablewrite::write::write_rows` meets its contract: what is written so far, with the rows left stored behind it, is the whole.
use Prim.Native.Nat.{◌+◌, ◌≤◌}
use mathlib.Core.Path.{◌≡◌}
use lib.ListN.{length}
use lib.Seq.{sets}
use Rattle.tablefile.specs.Layout.{header_size}
use Rattle.tablefile.specs.Writing.{rows_bytes}
use Rattle.tablewrite.proofs.Sizes.{rest}
use Rattle.tablewrite.proofs.write.write_rows.Given as goal

abbrev pub invariant-loop-row : goal.invariant-loop-row
invariant-loop-row l = (l.at + length (rest l.edition l.rows l.row-index) ≤ length l.out) × (sets l.out l.at (rest l.edition l.rows l.row-index) ≡ sets l.initial.out header_size (rows_bytes l.edition l.rows))
