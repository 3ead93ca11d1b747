-- Whether a frame waits in a queue, and whether one waits behind it.
use Prim.Native.Nat.{ℕ, suc}
use mathlib.Core.List.{List, [], ◌∷◌}
use mathlib.Core.Path.{◌≡◌, refl}
use native.Mathlib.Omega.{arith}
use lib.Dec.{leb}
use lib.ListN.{length}
use borrow.Author.Tests.{le-leb}
use Rattle.machine.specs.declared.Frame.{Frame}
use Rattle.machine.specs.State.{waiting}
use Rattle.machine.specs.Time.{behind_head}
use Rattle.machine.proofs.Places.{waiting_length}
use Rattle.bytetime.specs.Ports.{some}

some_length : (q : List Frame) → leb 1 (length q) ≡ some q
some_length [] = refl
some_length (f ∷ q) = le-leb 1 (suc (length q)) (omega arith)

more_length : (q : List Frame) → leb 2 (length q) ≡ some (behind_head q)
more_length [] = refl
more_length (f ∷ []) = refl
more_length (f ∷ g ∷ q) = le-leb 2 (suc (suc (length q))) (omega arith)

module _ (n : ℕ) (xs : List Frame) where
  pub some_is : leb 1 n ≡ some (waiting n xs)
  some_is = let e = some_length (waiting n xs) in rw (waiting_length n xs) at e

  pub more_is : leb 2 n ≡ some (behind_head (waiting n xs))
  more_is = let e = more_length (waiting n xs) in rw (waiting_length n xs) at e
