-- Rows one behind the other, there and back.
use Prim.Native.Nat.{ℕ, zero, suc, ◌+◌}
use mathlib.Core.Bool.{true}
use mathlib.Core.List.{List, [], ◌∷◌, ◌++◌, append_assoc}
use mathlib.Core.Path.{◌≡◌, refl, sym, ◌∙◌, ap, subst⁻¹}
use native.Mathlib.Nat.{add-zero}
use native.Mathlib.Omega.{arith}
use lib.ListN.{length, drop, length-append}
use lib.Seq.{drop-drop}
use Rattle.table.specs.declared.Row.{Row}
use Rattle.table.specs.Ranges.{InRange, Every}
use Rattle.tablefile.specs.declared.Edition.{Edition}
use Rattle.tablefile.specs.Layout.{allows, row_size}
use Rattle.tablefile.specs.Reading.{map_of, row_from, behind_row, rows_checks, rows_from, rows_end}
use Rattle.tablefile.specs.Writing.{row_bytes, rows_bytes}
use Rattle.tablefile.specs.RoundTrip.{Bytes}
use Rattle.tablefile.proofs.Rows.{row_if}
use Rattle.tablefile.proofs.FieldTrip.{behind, bytes_drop}
use Rattle.tablefile.proofs.RowTrip.{row_back, row_accepted, row_size_back, row_of}
use Rattle.table.proofs.Laws as law

-- ---- the bytes of rows read as the rows
pub record RowsBack (ed : Edition) (rs : List Row) (s : List ℕ) (at : ℕ) : Type 0 where
  pub rows : rows_from ed (length rs) s at ≡ rs
  pub end : rows_end (length rs) s at ≡ at + length (rows_bytes ed rs)
  pub checks : law.Accept (rows_checks ed (length rs) s at)

both : {r q : Row} {rs qs : List Row} → r ≡ q → rs ≡ qs → r ∷ rs ≡ q ∷ qs
both e f = cc

pub rows_back : (ed : Edition) (rs : List Row) (s : List ℕ) (at : ℕ) (rest : List ℕ) → Every InRange rs → Every (λ r. allows ed r ≡ true) rs → drop at s ≡ rows_bytes ed rs ++ rest → RowsBack ed rs s at
unfolding rows_checks rows_from rows_end rows_bytes
rows_back ed [] s at rest ok may e = record { rows = refl; end = sym (add-zero at); checks = tt }
rows_back ed (r ∷ rs) s at rest ok may e =
    let here : drop at s ≡ row_bytes ed r ++ (rows_bytes ed rs ++ rest) = e ∙ append_assoc (row_bytes ed r) (rows_bytes ed rs) rest in
    let size : row_size (map_of (drop at s)) ≡ length (row_bytes ed r) = row_size_back ed r (rows_bytes ed rs ++ rest) (drop at s) here in
    let next = rows_back ed rs s (at + length (row_bytes ed r)) rest ok.1 may.1 (behind s at (row_bytes ed r) (rows_bytes ed rs ++ rest) here) in
    record {
      rows = both (row_back ed r (rows_bytes ed rs ++ rest) (drop at s) ok.0 may.0 here) (ap (λ n. rows_from ed (length rs) s (at + n)) size ∙ next.rows);
      end = ap (λ n. rows_end (length rs) s (at + n)) size ∙ next.end ∙ omega (arith, length-append (row_bytes ed r) (rows_bytes ed rs));
      checks = (row_accepted ed r (rows_bytes ed rs ++ rest) (drop at s) at ok.0 may.0 here, subst⁻¹ (λ (n : ℕ). law.Accept (rows_checks ed (length rs) s (at + n))) size next.checks);
    }

-- ---- bytes that read as rows are the rows' bytes, and the rows are in range and allowed
pub record RowsOf (ed : Edition) (n : ℕ) (s : List ℕ) (at : ℕ) : Type 0 where
  pub bytes : drop at s ≡ rows_bytes ed (rows_from ed n s at) ++ drop (rows_end n s at) s
  pub range : Every InRange (rows_from ed n s at)
  pub allowed : Every (λ r. allows ed r ≡ true) (rows_from ed n s at)

pub rows_of_lem : (ed : Edition) (n : ℕ) (s : List ℕ) (at : ℕ) → Bytes s → law.Accept (rows_checks ed n s at) → RowsOf ed n s at
unfolding rows_checks rows_from rows_end rows_bytes
rows_of_lem ed zero s at b a = record { bytes = refl; range = tt; allowed = tt }
rows_of_lem ed (suc n) s at b a =
    let x = row_of ed (drop at s) (bytes_drop at s b) (row_if ed (drop at s) at a.0) in
    let y = rows_of_lem ed n s (behind_row s at) b a.1 in
    record {
      bytes =
          x.bytes
          ∙ ap (λ q. row_bytes ed (row_from ed (drop at s)) ++ q) (drop-drop (row_size (map_of (drop at s))) at s ∙ y.bytes)
          ∙ sym (append_assoc (row_bytes ed (row_from ed (drop at s))) (rows_bytes ed (rows_from ed n s (behind_row s at))) (drop (rows_end n s (behind_row s at)) s));
      range = (x.range, y.range);
      allowed = (x.allowed, y.allowed);
    }
