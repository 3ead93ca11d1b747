-- The rows of a file one by one: what is done, with the rows that are left, is the whole.
use Prim.Native.Nat.{ℕ, suc, ◌+◌, ◌*◌, ◌-◌, ◌≤◌, ◌<◌}
use mathlib.Core.Bool.{Bool, true, false, cond}
use mathlib.Core.List.{List, [], ◌∷◌, ◌++◌}
use mathlib.Core.Path.{◌≡◌, refl, ◌∙◌, ap}
use native.Mathlib.Numerals.{add-one, one-add}
use native.Mathlib.Omega.{arith}
use lib.ListN.{length, get_or, take, drop, length-append, length-drop, drop_of_length-le}
use lib.Seq.{sets, length-sets, drop-cons}
use Rattle.std.specs.List.{prefix_len, take_while, sum_by}
use Rattle.std.proofs.lemmas.List.Sums.{sum_by-cons}
use Rattle.table.specs.declared.Row.{Row}
use Rattle.table.specs.Rows.{no_row, Contents}
use Rattle.table.specs.Checks.{passing}
use Rattle.tablefile.specs.declared.Edition.{Edition}
use Rattle.tablefile.specs.Layout.{header_size, bytes_of, Field, Payload, Period, Deadline, Rate, Samples, width_of, bit_of, size_in, row_size}
use Rattle.tablefile.specs.Writing.{map_byte, row_bytes, rows_bytes, header_bytes, file_of}
use Rattle.tablefile.proofs.Laws.{row_length}
use Rattle.tablewrite.proofs.Stores.{sets_append, part_is, part_stored}

-- the bytes of the row at i, and of the rows from i on
abbrev pub this : Edition → List Row → ℕ → List ℕ
this ed rs i = row_bytes ed (get_or rs i no_row)

abbrev pub rest : Edition → List Row → ℕ → List ℕ
rest ed rs i = rows_bytes ed (drop i rs)

pub header_length : (ed : Edition) (t : Contents) → length (header_bytes ed t) ≡ header_size
unfolding header_bytes bytes_of
header_length ed t = refl

pub file_size : (ed : Edition) (t : Contents) → length (file_of ed t) ≡ header_size + length (rows_bytes ed t.rows)
unfolding file_of
file_size ed t = rw (length-append, header_length ed) refl

module _ (ed : Edition) (rs : List Row) (i : ℕ) where
  rest_next : i < length rs → rest ed rs i ≡ this ed rs i ++ rest ed rs (i + 1)
  unfolding rows_bytes
  rest_next h = rw (add-one, drop-cons rs i no_row h) refl

  rest_none : length rs ≤ i → rest ed rs i ≡ []
  unfolding rows_bytes
  rest_none h = rw (drop_of_length-le rs {i = i} h) refl

  pub size_next : (n : ℕ) {m : ℕ} → i < length rs → n + length (rest ed rs i) ≡ m → n + length (this ed rs i) + length (rest ed rs (i + 1)) ≡ m
  size_next n h e = omega (arith, rw (rest_next h, length-append) at e)

  pub stored_end : (at : ℕ) (xs : List ℕ) → length rs ≤ i → sets xs at (rest ed rs i) ≡ xs
  stored_end at xs h = rw (rest_none h) refl

  -- a turn that writes the row at i into the part of xs behind the place at
  module _ (at : ℕ) (xs : List ℕ) (h : i < length rs) (room : at + length (rest ed rs i) ≤ length xs) where
    pub row_room : at + length (this ed rs i) ≤ length xs
    row_room = omega (arith, size_next at h refl)

    pub part_room : length (this ed rs i) ≤ length (take (length xs - at) (drop at xs))
    part_room = rw (part_is at xs, length-drop) (omega (arith, row_room))

    module _ {ys : List ℕ} (w : ys ≡ this ed rs i ++ drop (length (this ed rs i)) (take (length xs - at) (drop at xs))) where
      done : take at xs ++ (ys ++ drop (length xs - at) (drop at xs)) ≡ sets xs at (this ed rs i)
      done = part_stored at xs (this ed rs i) row_room w

      pub stored_length : length (take at xs ++ (ys ++ drop (length xs - at) (drop at xs))) ≡ length xs
      stored_length = ap length done ∙ length-sets xs at (this ed rs i)

      pub stored_next : sets (take at xs ++ (ys ++ drop (length xs - at) (drop at xs))) (at + length (this ed rs i)) (rest ed rs (i + 1)) ≡ sets xs at (rest ed rs i)
      stored_next = rw (done, rest_next h) (sets_append (this ed rs i) (rest ed rs (i + 1)) xs at)

-- the sizes of the rows, added up
pub rows_sum : (ed : Edition) (rs : List Row) → sum_by (λ r. row_size (map_byte ed r)) rs ≡ length (rows_bytes ed rs)
unfolding rows_bytes
rows_sum ed [] = refl
rows_sum ed (r ∷ rs) = sum_by-cons (λ x. row_size (map_byte ed x)) r rs ∙ rw (length-append, row_length ed r, rows_sum ed rs) refl

size_most : (f : Field) (m : ℕ) → size_in f m ≤ width_of f
size_most f m = go (bit_of f m)
  where
    go : (b : Bool) → cond b (width_of f) 0 ≤ width_of f
    go true = omega arith
    go false = omega arith

row_most : (m : ℕ) → row_size m ≤ 16
row_most m = omega (arith, size_most Payload m, size_most Period m, size_most Deadline m, size_most Rate m, size_most Samples m)

pub rows_most : (ed : Edition) (rs : List Row) → length (rows_bytes ed rs) ≤ 16 * length rs
unfolding rows_bytes
rows_most ed [] = omega arith
rows_most ed (r ∷ rs) = rw (length-append, row_length ed r) (omega (arith, row_most (map_byte ed r), rows_most ed rs))
