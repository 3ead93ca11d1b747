-- Reading fills unused rows with zeros: the places of a table that was read are its rows, and zeros behind them.
use Prim.Native.Nat.{ℕ, zero, suc, ◌-◌, ◌≤◌}
use mathlib.Core.List.{List, ◌++◌}
use mathlib.Core.Path.{◌≡◌, refl, sym, ◌∙◌, ap}
use native.Mathlib.Omega.{arith}
use lib.ListN.{length, replicate, length-append, length-replicate}
use lib.Seq.{take_at}
use Rattle.table.specs.declared.Table.{Table}
use Rattle.table.specs.Limits.{most_rows}
use Rattle.table.specs.Rows.{no_row, rows_of}
use Rattle.table.specs.Checks.{accepted}
use Rattle.table.proofs.Laws.{rows_are}
use Rattle.tablefile.specs.declared.Edition.{Edition}
use Rattle.tablefile.specs.Layout.{header_size}
use Rattle.tablefile.specs.Reading.{row_count, behind_row, rows_from, table_of, read_as, edition_of, read_file}

pub rows_count : (ed : Edition) (n : ℕ) (s : List ℕ) (at : ℕ) → length (rows_from ed n s at) ≡ n
unfolding rows_from
rows_count ed zero s at = refl
rows_count ed (suc n) s at = ap suc (rows_count ed n s (behind_row s at))

-- The rows of a table record, and zeros in the places behind them.
pub record Filled (t : Table) : Type 0 where
  pub count : t.count ≡ length (rows_of t)
  pub rows : t.rows ≡ rows_of t ++ replicate (most_rows - length (rows_of t)) no_row

filled : (ed : Edition) (s : List ℕ) → row_count s ≤ most_rows → Filled (table_of s (rows_from ed (row_count s) s header_size))
filled ed s few =
    let rs = rows_from ed (row_count s) s header_size in
    let n : length rs ≡ row_count s = rows_count ed (row_count s) s header_size in
    let zeros = replicate (most_rows - length rs) no_row in
    let places : length (rs ++ zeros) ≡ most_rows = rw (length-append, length-replicate) (omega arith) in
    let own : rows_of (table_of s rs) ≡ rs = rows_are (table_of s rs) (omega arith) ∙ take_at rs zeros (row_count s) n in
    record { count = sym n ∙ sym (ap length own); rows = rw own refl }

pub read_filled : (s : List ℕ) → (read_file s).outcome ≡ accepted → (read_file s).table.count ≤ most_rows → Filled (read_file s).table
unfolding read_file read_as
read_filled s e few = rw e (filled (edition_of s) s (rw e at few))
