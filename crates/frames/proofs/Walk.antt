-- A test of every waiting frame.
use mathlib.Core.Bool.{Bool, ◌&&◌}
use mathlib.Core.List.{List, [], ◌∷◌}
use mathlib.Core.Path.{◌≡◌, refl, ap}
use Rattle.std.specs.List.{list_all}
use Rattle.machine.specs.declared.Frame.{Frame}
use Rattle.machine.specs.Record.{all_of}

pub all_of_list : (ok : Frame → Bool) (xs : List Frame) → all_of ok xs ≡ list_all ok xs
all_of_list ok [] = refl
all_of_list ok (f ∷ xs) = ap (λ b. ok f && b) (all_of_list ok xs)
