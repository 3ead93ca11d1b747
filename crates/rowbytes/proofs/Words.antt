-- The words of a row, stored one behind the other.
use Prim.Native.Nat.{ℕ, ◌+◌}
use mathlib.Core.Bool.{Bool, true, false}
use mathlib.Core.List.{List, [], ◌∷◌}
use mathlib.Core.Path.{◌≡◌, refl, ◌∙◌}
use Rattle.std.specs.Int.{from_bool}
use Rattle.table.specs.declared.Row.{Row}
use Rattle.words.specs.Words.{stored}
use Rattle.words.proofs.Laws.{more}
use Rattle.rowbytes.specs.Row.{class_word, tag_word, pace_words, row_words}

tag_is : (b : Bool) → from_bool b ≡ tag_word b
tag_is true = refl
tag_is false = refl

module _ (s : List ℕ) (k : ℕ) where
  pub row_put : (r : Row) {w v x y : ℕ} {l t : List ℕ} → w ≡ class_word r.class → v ≡ from_bool r.tagged → x ≡ r.payload → y ≡ r.deadline → l ≡ stored s k (w ∷ v ∷ x ∷ y ∷ []) → t ≡ stored l (k + 4) (pace_words r.pace) → t ≡ stored s k (row_words r)
  row_put r {w} {v} {x} {y} a b c d e f =
      rw (a, b ∙ tag_is r.tagged, c, d) at (more s k (w ∷ v ∷ x ∷ y ∷ []) (pace_words r.pace) e refl f)
