-- The rows read one behind the other, turn by turn, and the table that they fill.
use Prim.Native.Nat.{ℕ, zero, suc, ◌+◌, ◌-◌, ◌≤◌, ◌<◌}
use mathlib.Core.List.{List, [], ◌∷◌, ◌++◌, append_assoc}
use mathlib.Core.Path.{◌≡◌, refl, sym, ◌∙◌, ap}
use native.Mathlib.Nat.{le_of_suc-le-suc}
use native.Mathlib.Numerals.{add-one}
use native.Mathlib.Omega.{arith}
use lib.ListN.{length, take, drop, set, replicate, length-append, length-drop}
use lib.Seq.{set_at, take_all}
use Rattle.table.specs.declared.Row.{Row}
use Rattle.table.specs.declared.Table.{Table}
use Rattle.table.specs.Limits.{most_rows}
use Rattle.table.specs.Rows.{no_row}
use Rattle.table.specs.Checks.{accepted, refused, first}
use Rattle.tablefile.specs.declared.Edition.{Edition}
use Rattle.tablefile.specs.Layout.{header_size, row_size}
use Rattle.tablefile.specs.Reading.{row_count, header, header_of, map_of, row_from, row, behind_row, rows_checks, rows_from, rows_end, table_of}
use Rattle.tablefile.proofs.Laws.{row_if, row_inside, rows_count}
use Rattle.tableread.proofs.Headers.{long_enough}
use Rattle.table.proofs.Laws as law

-- ---- one row more, behind the others
end_next : (i : ℕ) (s : List ℕ) (at : ℕ) → rows_end (suc i) s at ≡ behind_row s (rows_end i s at)
unfolding rows_end
end_next zero s at = refl
end_next (suc i) s at = end_next i s (behind_row s at)

rows_next : (ed : Edition) (i : ℕ) (s : List ℕ) (at : ℕ) → rows_from ed (suc i) s at ≡ rows_from ed i s at ++ row_from ed (drop (rows_end i s at) s) ∷ []
unfolding rows_from rows_end
rows_next ed zero s at = refl
rows_next ed (suc i) s at = ap (λ (l : List Row). row_from ed (drop at s) ∷ l) (rows_next ed i s (behind_row s at))

checks_next : (ed : Edition) (i : ℕ) (s : List ℕ) (at : ℕ) → law.Accept (rows_checks ed i s at) → row ed (drop (rows_end i s at) s) (rows_end i s at) ≡ accepted → law.Accept (rows_checks ed (suc i) s at)
unfolding rows_checks rows_end
checks_next ed zero s at a e = (e, tt)
checks_next ed (suc i) s at a e = (a.0, checks_next ed i s (behind_row s at) a.1 e)

stops : (ed : Edition) (i n : ℕ) (s : List ℕ) (at : ℕ) {k p : ℕ} → i < n → law.Accept (rows_checks ed i s at) → row ed (drop (rows_end i s at) s) (rows_end i s at) ≡ refused k p → first (rows_checks ed n s at) ≡ refused k p
unfolding rows_checks rows_end
stops ed i zero s at h a e = absurd (omega arith)
stops ed zero (suc n) s at h a e = rw e refl
stops ed (suc i) (suc n) s at h a e = rw a.0 (stops ed i n s (behind_row s at) (le_of_suc-le-suc h) a.1 e)

-- ---- the part of the file that starts at a row is all that is left of it
pub part_is : (s : List ℕ) (at : ℕ) → take (length s - at) (drop at s) ≡ drop at s
part_is s at = take_all (length s - at) (drop at s) (rw (length-drop at s) (omega arith))

-- ---- after i rows, at a place of the file
pub record Filling (ed : Edition) (s : List ℕ) (t : Table) (at i : ℕ) : Type 0 where
  pub table : t ≡ table_of s (rows_from ed i s header_size)
  pub place : at ≡ rows_end i s header_size
  pub within : at ≤ length s
  pub few : i ≤ row_count s
  pub checks : law.Accept (rows_checks ed i s header_size)

pub begins : (ed : Edition) (s : List ℕ) {t : Table} → header ed s ≡ accepted → t ≡ table_of s [] → Filling ed s t header_size 0
unfolding rows_from rows_end rows_checks
begins ed s e t = record { table = t; place = refl; within = long_enough ed s e; few = omega arith; checks = tt }

-- one row more in the place behind the others
room : (rs : List Row) (r : Row) → length rs < most_rows → replicate (most_rows - length rs) no_row ≡ no_row ∷ replicate (most_rows - length (rs ++ r ∷ [])) no_row
room rs r h = let e : most_rows - length rs ≡ suc (most_rows - length (rs ++ r ∷ [])) = rw (length-append rs (r ∷ [])) (omega arith) in rw e refl

stored : (rs : List Row) (r : Row) (i : ℕ) → length rs ≡ i → i < most_rows → set (rs ++ replicate (most_rows - length rs) no_row) i r ≡ (rs ++ r ∷ []) ++ replicate (most_rows - length (rs ++ r ∷ [])) no_row
stored rs r i e h =
    ap (λ (l : List Row). set (rs ++ l) i r) (room rs r (omega arith))
    ∙ set_at rs no_row (replicate (most_rows - length (rs ++ r ∷ [])) no_row) r i e
    ∙ sym (append_assoc rs (r ∷ []) (replicate (most_rows - length (rs ++ r ∷ [])) no_row))

-- a table with another row at i
abbrev pub with_row_at : Table → ℕ → Row → Table
with_row_at t i r = record { header = t.header; count = t.count; rows = set t.rows i r }

filled : (ed : Edition) (s : List ℕ) (i : ℕ) (r : Row) → i < most_rows → r ≡ row_from ed (drop (rows_end i s header_size) s) → with_row_at (table_of s (rows_from ed i s header_size)) i r ≡ table_of s (rows_from ed (i + 1) s header_size)
filled ed s i r h e =
    ap (λ (l : List Row). record { header = header_of s; count = row_count s; rows = l }) (stored (rows_from ed i s header_size) r i (rows_count ed i s header_size) h)
    ∙ ap (table_of s) (ap (λ (x : Row). rows_from ed i s header_size ++ x ∷ []) e ∙ sym (rows_next ed i s header_size) ∙ ap (λ (k : ℕ). rows_from ed k s header_size) (sym (add-one i)))

module _ (ed : Edition) (s : List ℕ) {t : Table} {at i : ℕ} (f : Filling ed s t at i) where
  -- the row at the place, and what is wrong with it
  module _ {p : List ℕ} (ep : p ≡ drop at s) where
    pub inside : row ed p at ≡ accepted → at + row_size (map_of p) ≤ length s
    inside e =
        let h : row_size (map_of p) ≤ length (drop at s) = rw (← ep) (row_inside ed p (row_if ed p at e)) in
        let w = f.within in
        omega (arith, length-drop at s)

    pub goes_on : {r : Row} {size : ℕ} → i < row_count s → i < most_rows → r ≡ row_from ed p → row ed p at ≡ accepted → size ≡ row_size (map_of p) → Filling ed s (with_row_at t i r) (at + size) (i + 1)
    goes_on {r} {size} h g er e es =
        let here : p ≡ drop (rows_end i s header_size) s = ep ∙ ap (λ (k : ℕ). drop k s) f.place in
        let fine : row ed (drop (rows_end i s header_size) s) (rows_end i s header_size) ≡ accepted = rw (← here, ← f.place) e in
        record {
          table = ap (λ (x : Table). with_row_at x i r) f.table ∙ filled ed s i r g (er ∙ ap (row_from ed) here);
          place = rw (es, here, add-one i, end_next i s header_size, ← f.place) refl;
          within = rw es (inside e);
          few = omega arith;
          checks = rw (add-one i) (checks_next ed i s header_size f.checks fine);
        }

    pub ends_at : {k q : ℕ} → i < row_count s → row ed p at ≡ refused k q → first (rows_checks ed (row_count s) s header_size) ≡ refused k q
    ends_at h e =
        let here : p ≡ drop (rows_end i s header_size) s = ep ∙ ap (λ (k : ℕ). drop k s) f.place in
        stops ed i (row_count s) s header_size h f.checks (rw (← here, ← f.place) e)

  pub all_read : row_count s ≤ i → i ≡ row_count s
  all_read h = omega (arith, f.few)
