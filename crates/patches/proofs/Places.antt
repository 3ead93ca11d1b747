-- A table record's places where a row joins or leaves.
use Prim.Native.Nat.{ℕ, zero, suc, ◌+◌, ◌-◌, ◌≤◌, ◌<◌, max, min}
use mathlib.Core.Bool.{Bool, true, false}
use mathlib.Core.List.{List, [], ◌∷◌, ◌++◌}
use mathlib.Core.Path.{◌≡◌, refl, sym, ◌∙◌, ap}
use native.Mathlib.Omega.{arith}
use lib.Dec.{ltb, eqb}
use lib.ListN.{length, get_or, set, take, drop, replicate, length-set, length-take, length-drop, length-replicate}
use borrow.Rule.Slice.PartMut.{mid_of, post_of, put_mid, same_len_mid}
use Rattle.std.proofs.lemmas.List.{get_or_append_left, get_or-append_right, get_or-drop, get_or-replicate, get_or-take}
use lib.Seq.{get_or-set_same, get_or-set_other, take-suc, take-take}
use borrow.Author.Tests.{lt-ltb, ltb-true, ltb-false, eqb-true, eqb-false}
use Rattle.table.specs.declared.Row.{Row}
use Rattle.table.specs.declared.Table.{Table}
use Rattle.table.specs.Limits.{most_rows}
use Rattle.table.specs.Rows.{no_row, is_there, rows_of, contents, in_use, rows_with, trimmed, rows_without, with_row, without_row}
use Rattle.table.proofs.Laws as table
use Rattle.patches.specs.Steps.{top_of}
use Rattle.patches.proofs.Lists.{same_rows, behind, trimmed_there, trimmed_empty, trimmed_front}

-- a number below the count is in use if its row is there
pub used_there : (t : Table) → length t.rows ≡ 32 → t.count ≤ most_rows → (k : ℕ) → k < t.count → in_use (contents t) k ≡ is_there (get_or t.rows k no_row)
unfolding in_use
used_there t long few k h = rw (table.rows_length t, lt-ltb k t.count h, table.row_at_lem t long few k h) refl

-- ---- a row joins: places that are cleared up to i
pub record Cleared (t u : Table) (i : ℕ) : Type 0 where
  pub long : length u.rows ≡ 32
  pub header : u.header ≡ t.header
  pub count : u.count ≡ t.count
  pub old : (j : ℕ) → j < t.count → get_or u.rows j no_row ≡ get_or t.rows j no_row
  pub none : (j : ℕ) → t.count ≤ j → j < i → get_or u.rows j no_row ≡ no_row

-- places from the count up to k that are filled with rows of zeros
module _ (t : Table) (k m : ℕ) {ys : List Row} {r : Row} (long : length t.rows ≡ 32) (least : k < most_rows) (from : m ≡ min t.count k) (filled : ys ≡ replicate (length (mid_of m (k - m) t.rows)) r) (zeros : r ≡ no_row) where
  part : length (mid_of m (k - m) t.rows) ≡ k - m
  part = rw (length-take (k - m) (drop m t.rows), length-drop m t.rows, long) (omega arith)

  fill : length ys ≡ k - m
  fill = rw (filled, length-replicate) part

  front : length (take m t.rows) ≡ m
  front = rw (length-take m t.rows, long) (omega arith)

  abbrev pub filled_with : Table
  filled_with = record { header = t.header; count = t.count; rows = put_mid m (k - m) t.rows ys }

  rest : (j : ℕ) → m ≤ j → get_or filled_with.rows j no_row ≡ get_or (ys ++ post_of m (k - m) t.rows) (j - m) no_row
  rest j h = get_or-append_right (take m t.rows) _ m j no_row front h

  pub cleared_filled : Cleared t filled_with k
  cleared_filled =
      record {
        long = same_len_mid m (k - m) t.rows ys (fill ∙ sym part) ∙ long;
        header = refl;
        count = refl;
        old = λ j h. by j h (ltb j m) refl;
        none = λ j g l.
            rest j (omega arith)
            ∙ get_or_append_left ys (post_of m (k - m) t.rows) no_row (j - m) (omega (arith, fill))
            ∙ rw filled (get_or-replicate _ (j - m) r no_row (omega (arith, part)))
            ∙ zeros;
      }
    where
      by : (j : ℕ) → j < t.count → (b : Bool) → ltb j m ≡ b → get_or filled_with.rows j no_row ≡ get_or t.rows j no_row
      by j h true q =
          let l : j < m = ltb-true j m q in
          get_or_append_left (take m t.rows) _ no_row j (omega (arith, front)) ∙ get_or-take m t.rows j no_row l
      by j h false q =
          let g : m ≤ j = ltb-false j m q in
          let z : m + (k - m + (j - m - (k - m))) ≡ j = omega arith in
          rest j g
          ∙ get_or-append_right ys (post_of m (k - m) t.rows) (k - m) (j - m) no_row fill (omega arith)
          ∙ get_or-drop (k - m) (drop m t.rows) (j - m - (k - m)) no_row
          ∙ get_or-drop m t.rows (k - m + (j - m - (k - m))) no_row
          ∙ rw z refl

-- the row at its number, and the count above it
abbrev counted : Table → ℕ → ℕ → Row → Table
counted u n k r = record { header = u.header; count = n; rows = set u.rows k r }

pub row_joined : (t u : Table) (i k n : ℕ) (r : Row) → length t.rows ≡ 32 → t.count ≤ most_rows → k < most_rows → k ≤ i → Cleared t u i → n ≡ max t.count (k + 1) → contents (record { header = u.header; count = n; rows = set u.rows k r }) ≡ with_row k r (contents t)
unfolding with_row
row_joined t u i k n r long few least top c e =
    let v = counted u n k r in
    let count : length (rows_of v) ≡ length (rows_with k r (rows_of t)) = table.rows_length v ∙ omega (arith, table.with_length k r (rows_of t), table.rows_length t) in
    let rows : rows_of v ≡ rows_with k r (rows_of t) = same_rows (rows_of v) (rows_with k r (rows_of t)) count (λ j h. at_number j (rw (table.rows_length v) at h) (eqb j k) refl) in
    λ z. record { header = c.header z; rows = rows z }
  where
    is_wide : length (set u.rows k r) ≡ 32
    is_wide = length-set u.rows k r ∙ c.long

    below : (j : ℕ) → (j ≡ k → ⊥) → j < n → (b : Bool) → ltb j t.count ≡ b → get_or u.rows j no_row ≡ get_or (rows_of t) j no_row
    below j d h true q = let g = ltb-true j t.count q in c.old j g ∙ sym (table.row_at_lem t long few j g)
    below j d h false q =
        let g = ltb-false j t.count q in
        c.none j g (omega arith) ∙ sym (behind (rows_of t) j (rw (table.rows_length t) g))

    at_number : (j : ℕ) → j < n → (b : Bool) → eqb j k ≡ b → get_or (rows_of (counted u n k r)) j no_row ≡ get_or (rows_with k r (rows_of t)) j no_row
    at_number j h true q =
        table.row_at_lem (counted u n k r) is_wide (omega arith) j h ∙ rw (eqb-true j k q) (get_or-set_same u.rows k r no_row (rw c.long least) ∙ sym (table.with_same k r (rows_of t)))
    at_number j h false q =
        let d = eqb-false j k q in
        table.row_at_lem (counted u n k r) is_wide (omega arith) j h ∙ get_or-set_other u.rows k j r no_row d ∙ below j d h (ltb j t.count) refl ∙ sym (table.with_other k r (rows_of t) j d)

-- ---- a row leaves: the top of the first n places
module _ (t : Table) (n i : ℕ) (h : 0 < i) (wide : i ≤ length t.rows) where
  next : take i t.rows ≡ take (i - 1) t.rows ++ get_or t.rows (i - 1) no_row ∷ []
  next = let e : i ≡ suc (i - 1) = omega arith in ap (λ (m : ℕ). take m t.rows) e ∙ take-suc t.rows (i - 1) no_row (omega arith)

  pub top_there : is_there (get_or t.rows (i - 1) no_row) ≡ true → trimmed (take n t.rows) ≡ trimmed (take i t.rows) → i ≡ top_of n t
  top_there e s =
      let whole : trimmed (take i t.rows) ≡ take i t.rows = ap trimmed next ∙ trimmed_there (take (i - 1) t.rows) (get_or t.rows (i - 1) no_row) e ∙ sym next in
      rw (s, whole, length-take) (omega arith)

  pub top_empty : is_there (get_or t.rows (i - 1) no_row) ≡ false → trimmed (take n t.rows) ≡ trimmed (take i t.rows) → trimmed (take n t.rows) ≡ trimmed (take (i - 1) t.rows)
  top_empty e s = s ∙ ap trimmed next ∙ trimmed_empty (take (i - 1) t.rows) (get_or t.rows (i - 1) no_row) e

pub top_none : (t : Table) (n i : ℕ) → i ≤ 0 → trimmed (take n t.rows) ≡ trimmed (take i t.rows) → i ≡ top_of n t
unfolding trimmed
top_none t n i h s = let z : i ≡ 0 = omega arith in rw (s, z) refl

-- the first places of a list in which one is set
take_set : (n k : ℕ) (rs : List Row) (r : Row) → take n (set rs k r) ≡ set (take n rs) k r
take_set zero k rs r = refl
take_set (suc n) k [] r = refl
take_set (suc n) zero (x ∷ rs) r = refl
take_set (suc n) (suc k) (x ∷ rs) r = ap (λ (l : List Row). x ∷ l) (take_set n k rs r)

abbrev placed : Table → ℕ → Row → Table
placed u i r = record { header = u.header; count = u.count; rows = set u.rows i r }

pub row_left : (t : Table) (k n : ℕ) (r : Row) → length t.rows ≡ 32 → t.count ≤ most_rows → r ≡ no_row → n ≡ top_of t.count (placed t k r) → contents (record { header = t.header; count = n; rows = set t.rows k r }) ≡ without_row k (contents t)
unfolding without_row rows_without
row_left t k n r long few e top =
    let v : Table = record { header = t.header; count = n; rows = set t.rows k r } in
    let cut : List Row = take t.count (set t.rows k r) in
    let short : n ≤ t.count = omega (arith, top, table.trimmed_length cut, length_take_most) in
    let rows : rows_of v ≡ trimmed (set (rows_of t) k no_row) =
    table.rows_are v (rw (length-set t.rows k r, long) (omega arith))
    ∙ sym (take-take n t.count (set t.rows k r) short)
    ∙ ap (λ (m : ℕ). take m cut) top
    ∙ trimmed_front cut
    ∙ ap trimmed (take_set t.count k t.rows r ∙ ap (λ (x : Row). set (take t.count t.rows) k x) e ∙ ap (λ (l : List Row). set l k no_row) (sym (table.rows_are t (rw long few)))) in
    λ z. record { header = t.header; rows = rows z }
  where
    length_take_most : length (take t.count (set t.rows k r)) ≤ t.count
    length_take_most = rw length-take (omega arith)
