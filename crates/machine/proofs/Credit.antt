-- The signed credit. Headroom is the credit above its floor −k, a natural number: these are all the laws of signs that the proof needs.
use Prim.Native.Nat.{ℕ, zero, suc, ◌+◌, ◌-◌, ◌≤◌}
use mathlib.Core.Bool.{Bool, true, false, cond}
use mathlib.Core.List.{List, [], ◌∷◌}
use mathlib.Core.Path.{◌≡◌, refl}
use native.Mathlib.Omega.{arith}
use lib.IntN.{ℤ, pos, negsuc, sub_ℕ, ◌+ℤ◌, ◌-ℤ◌}
use lib.Dec.{ltb}
use borrow.Author.Tests.{ltb-true, ltb-false}
use Rattle.machine.specs.declared.Frame.{Frame}
use Rattle.machine.specs.Time.{ready, up_to_zero, rise}

-- u is the credit plus k
abbrev pub Headroom : ℕ → ℤ → ℕ → Type 0
Headroom u (pos n) k = u ≡ n + k
Headroom u (negsuc n) k = u + suc n ≡ k

difference : (a b u k : ℕ) → u + b ≡ a + k → Headroom u (sub_ℕ a b) k
difference a b u k = go (ltb a b) refl
  where
    go : (t : Bool) → ltb a b ≡ t → u + b ≡ a + k → Headroom u (cond t (negsuc (b - suc a)) (pos (a - b))) k
    go true e h = omega (arith, ltb-true a b e)
    go false e h = omega (arith, ltb-false a b e)

-- the credit gains i
pub gains : (c : ℤ) (u k i : ℕ) → Headroom u c k → Headroom (u + i) (c +ℤ pos i) k
gains (pos n) u k i h = omega arith
gains (negsuc n) u k i h = difference i (suc n) (u + i) k (omega arith)

-- the credit loses s
pub loses : (c : ℤ) (u k s : ℕ) → s ≤ u → Headroom u c k → Headroom (u - s) (c -ℤ pos s) k
loses (pos n) u k zero l h = omega arith
loses (pos n) u k (suc m) l h = difference n (suc m) (u - suc m) k (omega arith)
loses (negsuc n) u k zero l h = difference 0 (suc n) (u - 0) k (omega arith)
loses (negsuc n) u k (suc m) l h = omega arith

-- a credit moved down to 0 or left
pub record Lowered (c : ℤ) (u k : ℕ) : Type 0 where
  pub room : ℕ
  pub head : Headroom room c k
  pub below : room ≤ u
  pub rests : room ≤ k

pub capped : (c : ℤ) (u k : ℕ) → Headroom u c k → Lowered (up_to_zero c) u k
capped (pos n) u k h = record { room = k; head = omega arith; below = omega arith; rests = omega arith }
capped (negsuc n) u k h = record { room = u; head = h; below = omega arith; rests = omega arith }

-- a credit that rises, but not above 0, and then settles
pub rises : (c : ℤ) (u k i : ℕ) → Headroom u c k → Lowered (up_to_zero (rise c i)) (u + i) k
rises (pos n) u k i h = record { room = k; head = omega arith; below = omega arith; rests = omega arith }
rises (negsuc n) u k i h =
    let one = capped (negsuc n +ℤ pos i) (u + i) k (gains (negsuc n) u k i h) in
    let two = capped (up_to_zero (negsuc n +ℤ pos i)) one.room k one.head in
    record { room = two.room; head = two.head; below = omega arith; rests = two.rests }

-- a head that goes out has credit at least 0
pub ready_credit : (c : ℤ) (q : List Frame) (u k : ℕ) → ready c q ≡ true → Headroom u c k → k ≤ u
ready_credit (pos n) q u k e h = omega arith
ready_credit (negsuc n) q u k e h = let z : ◌≡◌ {A = ℕ} 0 1 = cc in absurd (omega arith)

-- a class whose head does not go out has credit at most 0, if that holds when it has no frame
pub idle_credit : (c : ℤ) (q : List Frame) (u k : ℕ) → ready c q ≡ false → (q ≡ [] → u ≤ k) → Headroom u c k → u ≤ k
idle_credit (pos n) [] u k e r h = r refl
idle_credit (pos n) (f ∷ fs) u k e r h = let z : ◌≡◌ {A = ℕ} 0 1 = cc in absurd (omega arith)
idle_credit (negsuc n) q u k e r h = omega arith
