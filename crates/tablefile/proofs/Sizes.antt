-- How many bytes a field and a row take, by the map byte's bits.
use Prim.Native.Nat.{ℕ, zero, suc, ◌+◌, ◌/◌, ◌%◌}
use mathlib.Core.Bool.{Bool, true, false, cond}
use mathlib.Core.List.{[], ◌∷◌}
use mathlib.Core.Path.{◌≡◌, refl, ◌∙◌}
use native.Mathlib.Numerals.{add-one}
use native.Mathlib.Omega.{arith}
use lib.ListN.{length, length-append}
use Rattle.table.specs.declared.Row.{Row}
use Rattle.tablefile.specs.declared.Edition.{Edition}
use Rattle.tablefile.specs.Layout.{bytes_of, Field, Payload, Period, Deadline, Rate, Samples, value_of, width_of, bit_of, size_in, place_of, row_size}
use Rattle.tablefile.specs.Writing.{map_byte, field_bytes, row_bytes}

-- rate and samples share a bit
pub bit_shared : (m : ℕ) → bit_of Rate m ≡ bit_of Samples m
unfolding bit_of
bit_shared m = refl

-- a field takes its bytes behind its place where its bit stands
pub behind_field : (f : Field) (m : ℕ) {b : Bool} {at r : ℕ} → b ≡ bit_of f m → at ≡ place_of f m → r ≡ at + cond b (width_of f) 0 → r ≡ place_of f m + size_in f m
behind_field f m e p h = rw (h, e, p) refl

pub bytes_length : (n v : ℕ) → length (bytes_of n v) ≡ n
unfolding bytes_of
bytes_length zero v = refl
bytes_length (suc n) v = length-append (bytes_of n (v / 256)) (v % 256 ∷ []) ∙ rw (bytes_length n (v / 256), add-one n) refl

pub field_size : (ed : Edition) (f : Field) (r : Row) → length (field_bytes ed f r) ≡ size_in f (map_byte ed r)
field_size ed f r = go (bit_of f (map_byte ed r))
  where
    go : (b : Bool) → length (cond b (bytes_of (width_of f) (value_of f r)) []) ≡ cond b (width_of f) 0
    go true = bytes_length (width_of f) (value_of f r)
    go false = refl

pub row_length : (ed : Edition) (r : Row) → length (row_bytes ed r) ≡ row_size (map_byte ed r)
unfolding row_bytes
row_length ed r =
    simp length-append (omega (arith, field_size ed Payload r, field_size ed Period r, field_size ed Deadline r, field_size ed Rate r, field_size ed Samples r))
