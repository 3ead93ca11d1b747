-- What an accepted header says.
use Prim.Native.Nat.{ℕ, ◌≤◌}
use mathlib.Core.List.{List}
use mathlib.Core.Path.{◌≡◌}
use lib.Dec.{leb}
use lib.ListN.{length}
use borrow.Author.Tests.{leb-true}
use Rattle.table.specs.Limits.{most_rows}
use Rattle.table.specs.Checks.{accepted}
use Rattle.tablefile.specs.declared.Edition.{Edition}
use Rattle.tablefile.specs.Layout.{header_size}
use Rattle.tablefile.specs.Reading.{row_count, header_checks, header}
use Rattle.table.proofs.Laws as law

module _ (ed : Edition) (s : List ℕ) (e : header ed s ≡ accepted) where
  pub long_enough : header_size ≤ length s
  unfolding header
  long_enough = leb-true header_size (length s) (law.unless_passes _ 1 0 (law.all_accept (header_checks ed s) e).0)

  pub few_rows : row_count s ≤ most_rows
  unfolding header
  few_rows = leb-true (row_count s) most_rows (law.and-true (leb 1 (row_count s)) (leb (row_count s) most_rows) (law.unless_passes _ 3 14 (law.all_accept (header_checks ed s) e).1.1.1.1.1.0)).1
