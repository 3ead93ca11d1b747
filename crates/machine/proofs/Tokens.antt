-- Tokens: how much of its next frame a row has earned. A token is at most D × C; a byte-time raises it by at most the row's share; an offer that is not early finds it whole, and sets it to 0.
use Prim.Native.Nat.{ℕ, zero, suc, ◌+◌, ◌-◌, ◌*◌, ◌≤◌, ◌<◌, min}
use mathlib.Core.Bool.{Bool, true, false, cond}
use mathlib.Core.List.{List, [], ◌∷◌}
use mathlib.Core.Path.{◌≡◌, refl, ap}
use native.Mathlib.Nat.{sub_self, mul-zero, mul-suc, mul-le-mul_left, le_of_suc-le-suc}
use native.Mathlib.Omega.{arith}
use lib.ListN.{length, get_or, set}
use Rattle.table.specs.declared.Class.{Class}
use Rattle.table.specs.declared.Row.{Row}
use Rattle.table.specs.Limits.{D}
use Rattle.table.specs.Wire.{size_of, share_of}
use Rattle.table.specs.Rows.{no_row}
use Rattle.planner.specs.Sums.{counts, sum_over}
use Rattle.planner.proofs.Laws as law
use Rattle.machine.specs.State.{Instant, never, at}

abbrev pub token_of : Row → Instant → ℕ → ℕ
token_of r never now = D * size_of r
token_of r (at k) now = min (D * size_of r) (share_of r * (now - k))

abbrev pub weigh : Class → Row → ℕ → ℕ
weigh c r n = cond (counts c r) n 0

abbrev pub tokens : Class → ℕ → List Row → List Instant → ℕ
tokens c now [] ls = 0
tokens c now (r ∷ rs) [] = weigh c r (token_of r never now) + tokens c now rs []
tokens c now (r ∷ rs) (l ∷ ls) = weigh c r (token_of r l now) + tokens c now rs ls

token_most : (r : Row) (l : Instant) (now : ℕ) → token_of r l now ≤ D * size_of r
token_most r never now = omega arith
token_most r (at k) now = omega arith

token_rises : (r : Row) (l : Instant) (now : ℕ) → token_of r l (suc now) ≤ token_of r l now + share_of r
token_rises r never now = omega arith
token_rises r (at k) now =
    let step : share_of r * (suc now - k) ≤ share_of r * suc (now - k) = mul-le-mul_left (share_of r) (omega arith) in
    omega (arith, mul-suc (share_of r) (now - k))

weigh_most : (c : Class) (r : Row) {m n : ℕ} → m ≤ n → weigh c r m ≤ weigh c r n
weigh_most c r {m} {n} h = go (counts c r)
  where
    go : (b : Bool) → cond b m 0 ≤ cond b n 0
    go true = h
    go false = omega arith

weigh_none : (c : Class) (r : Row) → weigh c r 0 ≡ 0
weigh_none c r = go (counts c r)
  where
    go : (b : Bool) → cond {A = ℕ} b 0 0 ≡ 0
    go true = refl
    go false = refl

weigh_sum : (c : Class) (r : Row) (m n : ℕ) → weigh c r (m + n) ≡ weigh c r m + weigh c r n
weigh_sum c r m n = go (counts c r)
  where
    go : (b : Bool) → cond b (m + n) 0 ≡ cond b m 0 + cond b n 0
    go true = refl
    go false = omega arith

pub weigh_times : (c : Class) (r : Row) (n : ℕ) → weigh c r (D * n) ≡ D * weigh c r n
weigh_times c r n = go (counts c r)
  where
    go : (b : Bool) → cond b (D * n) 0 ≡ D * cond b n 0
    go true = refl
    go false = omega arith

module _ (c : Class) (now : ℕ) where
  pub tokens_most : (rs : List Row) (ls : List Instant) → tokens c now rs ls ≤ D * sum_over c size_of rs
  tokens_most [] ls = omega arith
  tokens_most (r ∷ rs) [] = omega (arith, tokens_most rs [], weigh_times c r (size_of r), law.sum_more c size_of r rs)
  tokens_most (r ∷ rs) (l ∷ ls) = omega (arith, tokens_most rs ls, weigh_most c r (token_most r l now), weigh_times c r (size_of r), law.sum_more c size_of r rs)

  pub tokens_rise : (rs : List Row) (ls : List Instant) → tokens c (suc now) rs ls ≤ tokens c now rs ls + sum_over c share_of rs
  tokens_rise [] ls = omega arith
  tokens_rise (r ∷ rs) [] = omega (arith, tokens_rise rs [], law.sum_more c share_of r rs)
  tokens_rise (r ∷ rs) (l ∷ ls) =
      omega (arith, tokens_rise rs ls, weigh_most c r (token_rises r l now), weigh_sum c r (token_of r l now) (share_of r), law.sum_more c share_of r rs)

  -- a taken frame: the row's token was whole, and is 0
  pub tokens_fall : (rs : List Row) (ls : List Instant) (k : ℕ) → k < length rs → length ls ≡ length rs → token_of (get_or rs k no_row) (get_or ls k never) now ≡ D * size_of (get_or rs k no_row) → tokens c now rs (set ls k (at now)) + weigh c (get_or rs k no_row) (D * size_of (get_or rs k no_row)) ≡ tokens c now rs ls
  tokens_fall [] ls k h e w = absurd (omega arith)
  tokens_fall (r ∷ rs) [] k h e w = absurd (omega arith)
  tokens_fall (r ∷ rs) (l ∷ ls) zero h e w =
      let spent : min (D * size_of r) (share_of r * (now - now)) ≡ 0 = rw (sub_self, mul-zero) (omega arith) in
      omega (arith, ap (λ (n : ℕ). weigh c r n) spent, weigh_none c r, ap (λ (n : ℕ). weigh c r n) w)
  tokens_fall (r ∷ rs) (l ∷ ls) (suc k) h e w = omega (arith, tokens_fall rs ls k (le_of_suc-le-suc h) (omega arith) w)
