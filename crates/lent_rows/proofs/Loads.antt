-- A table that lent rows fill one after the other: a row more is one turn, and the table of the rows that are read gets the answer of the list.
use Prim.Native.Nat.{ℕ, ◌+◌, ◌-◌, ◌≤◌, ◌<◌, min}
use mathlib.Core.List.{List, [], ◌∷◌, ◌++◌}
use mathlib.Core.Logic.{⊎_elim}
use mathlib.Core.Path.{◌≡◌, refl, sym, ◌∙◌}
use native.Mathlib.Nat.{eq-zero-or-pos}
use native.Mathlib.Numerals.{add-one}
use native.Mathlib.Omega.{arith}
use lib.ListN.{length, get_or, set, take, length-set}
use lib.Seq.{take-suc, take_all, take-suc-set}
use Rattle.std.specs.Prelude.{Result, Ok, Err}
use Rattle.table.specs.declared.Row.{Row}
use Rattle.table.specs.declared.Refusal.{Refusal}
use Rattle.table.specs.declared.Refusal.TheVariants.{RowCount}
use Rattle.table.specs.declared.Header.{Header}
use Rattle.table.specs.declared.Table.{Table}
use Rattle.table.specs.Limits.{most_rows}
use Rattle.table.specs.Rows.{no_row, Contents, rows_of, contents}
use Rattle.table.proofs.Laws.{never, rows_length, rows_are}
use Rattle.planner.specs.Plan.{Shown}
use Rattle.planner.proofs.Laws.{too_many}
use Rattle.lent_rows.specs.Steps.{enough, no_rows, Pushed}

-- a row stored behind the last is one more row
pub stored : (t : Table) (row : Row) → length t.rows ≡ 32 → t.count < most_rows → rows_of (record { header = t.header; count = t.count + 1; rows = set t.rows t.count row }) ≡ rows_of t ++ row ∷ []
stored t row long h =
    rows_are (record { header = t.header; count = t.count + 1; rows = set t.rows t.count row }) (rw (length-set, long) (omega arith))
    ∙ rw (rows_are t (rw long (omega arith)), add-one t.count) (take-suc-set t.rows t.count row (rw long h))

-- more than 32 rows are refused
pub long_right : (t : Contents) → most_rows < length t.rows → Shown t (Err RowCount)
long_right t h = too_many t h

-- two lists that are too long get one answer
pub both_long : (t u : Contents) (r : Result (List ℕ) Refusal) → most_rows < length t.rows → most_rows < length u.rows → Shown t r → Shown u r
both_long t u (Ok bs) g h s = never (sym (too_many t g) ∙ s.verdict)
both_long t u (Err e) g h s = too_many u h ∙ sym (too_many t g) ∙ s

-- a table has the header and the first i rows of a list; a row that finds no place is only counted
pub record Loaded (h : Header) (ys : List Row) (i : ℕ) (t : Table) : Type 0 where
  pub header : t.header ≡ h
  pub count : t.count ≡ i
  pub rows : i ≤ most_rows → rows_of t ≡ take i ys

module _ (h : Header) (ys : List Row) where
  pub none : Loaded h ys 0 (no_rows h)
  none = record { header = refl; count = refl; rows = λ z. rows_are (no_rows h) (omega arith) }

  pub one_more : (i : ℕ) (t r : Table) → i < length ys → i < enough → Loaded h ys i t → Pushed t (get_or ys i no_row) r → Loaded h ys (i + 1) r
  one_more i t r l few so_far p =
      record {
        header = p.header ∙ so_far.header;
        count = p.count ∙ rw so_far.count (omega arith);
        rows = λ z. p.rows (rw so_far.count (omega arith)) ∙ rw (so_far.rows (omega arith), add-one i, take-suc ys i no_row l) refl;
      }

  pub all_read : (t : Table) (r : Result (List ℕ) Refusal) → Loaded h ys (min (length ys) enough) t → Shown (contents t) r → Shown (record { header = h; rows = ys }) r
  all_read t r so_far s = ⊎_elim short long (eq-zero-or-pos (length ys - most_rows))
    where
      short : length ys - most_rows ≡ 0 → Shown (record { header = h; rows = ys }) r
      short z =
          let n : min (length ys) enough ≤ most_rows = omega arith in
          let e : rows_of t ≡ ys = so_far.rows n ∙ take_all (min (length ys) enough) ys (omega arith) in
          let s' : Shown (record { header = t.header; rows = ys }) r = rw e at s in rw so_far.header at s'

      long : 0 < length ys - most_rows → Shown (record { header = h; rows = ys }) r
      long z = both_long (contents t) (record { header = h; rows = ys }) r (rw (rows_length t, so_far.count) (omega arith)) (omega arith) s
