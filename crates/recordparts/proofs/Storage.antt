-- The words of an instant and of the wire, stored one behind the other.
use Prim.Native.Nat.{ℕ, ◌+◌}
use mathlib.Core.List.{List, [], ◌∷◌}
use mathlib.Core.Path.{◌≡◌, refl}
use native.Mathlib.Omega.{arith}
use Rattle.std.specs.declared.option.Option.{Option}
use Rattle.std.specs.declared.option.Option.TheVariants.{Some}
use Rattle.machine.specs.declared.Frame.{Frame}
use Rattle.machine.specs.declared.Wire.{Wire}
use Rattle.machine.specs.declared.Wire.TheVariants.{Sending}
use Rattle.machine.specs.State.{instant_of}
use Rattle.words.specs.Words.{stored}
use Rattle.words.proofs.Laws.{more, two}
use Rattle.recordbytes.specs.Layout.{frame_width}
use Rattle.recordbytes.specs.Record.{frame_words, last_words, wire_words}

module _ (s : List ℕ) (k : ℕ) where
  pub instant_put : {x : Option ℕ} {taken : ℕ} {l t : List ℕ} → x ≡ Some taken → l ≡ stored s k (1 ∷ []) → t ≡ stored l (k + 1) (taken ∷ []) → t ≡ stored s k (last_words (instant_of x))
  instant_put {taken = taken} z e f = rw z (two s k 1 taken e f)

  pub sending_put : {w : Wire} {x : Frame} {left : ℕ} {l t u : List ℕ} → w ≡ Sending x left → l ≡ stored s k (1 ∷ []) → t ≡ stored l (k + 1) (frame_words x) → u ≡ stored t (k + 1 + frame_width) (left ∷ []) → u ≡ stored s k (wire_words w)
  sending_put {x = x} {left = left} z e f g = rw z (more s k (1 ∷ frame_words x) (left ∷ []) (more s k (1 ∷ []) (frame_words x) e refl f) (omega arith) g)
