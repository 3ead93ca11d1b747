-- What a file reads as, by the header and the rows.
use Prim.Native.Nat.{ℕ, ◌≤◌}
use mathlib.Core.List.{List}
use mathlib.Core.Path.{◌≡◌, refl, sym, ◌∙◌, ap}
use lib.ListN.{length}
use lib.Dec.{leb}
use Rattle.std.specs.Prelude.{Result, Ok, Err}
use Rattle.table.specs.declared.Table.{Table}
use Rattle.table.specs.Checks.{Outcome, accepted, unless, first}
use Rattle.tablefile.specs.declared.Misread.{Misread}
use Rattle.tablefile.specs.declared.Loaded.{Loaded}
use Rattle.tablefile.specs.declared.Edition.{Edition}
use Rattle.tablefile.specs.Layout.{header_size}
use Rattle.tablefile.specs.Reading.{refusal_of, row_count, header, rows_checks, rows_from, rows_end, file_end, file_checks, table_of, table_by, read_as, Reads}
use Rattle.tablefile.proofs.Laws.{accept_first}
use Rattle.tableread.proofs.Turns.{Filling, all_read}

module _ (ed : Edition) (s : List ℕ) {r : Result Loaded Misread} (m : Misread) (e : r ≡ Err m) where
  by_refusal : first (file_checks ed s) ≡ refusal_of m → Reads (read_as ed s) r
  unfolding read_as
  by_refusal file = rw e file

  pub refused_header : header ed s ≡ refusal_of m → Reads (read_as ed s) r
  refused_header h = by_refusal (rw h refl)

  pub refused_row : header ed s ≡ accepted → first (rows_checks ed (row_count s) s header_size) ≡ refusal_of m → Reads (read_as ed s) r
  refused_row h g = by_refusal (rw (h, g) refl)

module _ (ed : Edition) (s : List ℕ) (h : header ed s ≡ accepted) {t : Table} {at i : ℕ} (f : Filling ed s t at i) (n : row_count s ≤ i) where
  end : at ≡ file_end s
  end = f.place ∙ ap (λ (k : ℕ). rows_end k s header_size) (all_read ed s f n)

  rows : first (rows_checks ed (row_count s) s header_size) ≡ accepted
  rows = rw (← all_read ed s f n) (accept_first (rows_checks ed i s header_size) f.checks)

  pub bytes_left : {r : Result Loaded Misread} (m : Misread) → r ≡ Err m → refusal_of m ≡ unless (leb (length s) at) 7 at → Reads (read_as ed s) r
  bytes_left m e c = by_refusal ed s m e (rw (h, rows, ← end, ← c) refl)

  pub none_left : accepted ≡ unless (leb (length s) at) 7 at → Reads (read_as ed s) (Ok (record { edition = ed; table = t }))
  unfolding read_as
  none_left c =
      let e : first (file_checks ed s) ≡ accepted = rw (h, rows, ← end, ← c) refl in
      record { outcome = e; edition = refl; table = f.table ∙ ap (λ (k : ℕ). table_of s (rows_from ed k s header_size)) (all_read ed s f n) ∙ sym (ap (λ (o : Outcome). table_by ed o s) e) }
