-- The frames that wait in a queue's places where one joins them or their head leaves, and the instants of a table's rows.
use Prim.Native.Nat.{ℕ, zero, suc, ◌≤◌, ◌<◌}
use mathlib.Core.List.{List, [], ◌∷◌, ◌++◌, map}
use mathlib.Core.Path.{◌≡◌, refl, ◌∙◌, ap}
use borrow.Author.Tests.{lt-ltb, le-leb}
use lib.ListN.{length, set, length-map}
use Rattle.std.specs.declared.option.Option.{Option}
use Rattle.table.specs.declared.Row.{Row}
use Rattle.machine.specs.declared.Frame.{Frame}
use Rattle.machine.specs.State.{Instant, instant_of, instants_for, instants_of}
use Rattle.machine.specs.Time.{behind_head}
use Rattle.machine.proofs.Instants.{for_set_again}
use Rattle.effects.specs.Queues.{with_frame, without_head}

-- what the tests of a queue's places come to
module _ (places : ℕ) (q : List Frame) where
  pub room_left : (f : Frame) → length q < places → with_frame places f q ≡ q ++ f ∷ []
  room_left f h = rw (lt-ltb (length q) places h) refl

  pub head_leaves : length q ≤ places → without_head places q ≡ behind_head q
  head_leaves h = rw (le-leb (length q) places h) refl

-- the last instant of a row is set
map_set : (ls : List (Option ℕ)) (k : ℕ) (l : Option ℕ) → map instant_of (set ls k l) ≡ set (map instant_of ls) k (instant_of l)
map_set [] k l = refl
map_set (x ∷ ls) zero l = refl
map_set (x ∷ ls) (suc k) l = ap (λ (is : List Instant). instant_of x ∷ is) (map_set ls k l)

pub instant_set : (rs : List Row) (ls : List (Option ℕ)) (k : ℕ) (l : Option ℕ) → k < length ls → instants_of rs (set ls k l) ≡ instants_for rs (set (instants_of rs ls) k (instant_of l))
instant_set rs ls k l h = ap (λ (is : List Instant). instants_for rs is) (map_set ls k l) ∙ for_set_again rs (map instant_of ls) k (instant_of l) (rw (length-map ls instant_of) h)
