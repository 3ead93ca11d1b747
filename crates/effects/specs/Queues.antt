-- The frames that wait in a queue of so many places, with one more or one less.
use Rattle.std.specs.Prelude.{ℕ, cond, List, [], ◌∷◌, ◌++◌, leb, ltb, length}
use Rattle.machine.specs.declared.Frame.{Frame}
use Rattle.machine.specs.Time.{behind_head}

-- A frame behind the others, where there is a place for it.
abbrev pub with_frame : ℕ → Frame → List Frame → List Frame
with_frame places f q = cond (ltb (length q) places) (q ++ f ∷ []) q

-- Those behind the head. More frames than places, which no sound record has, stay as they are.
abbrev pub without_head : ℕ → List Frame → List Frame
without_head places q = cond (leb (length q) places) (behind_head q) q
