-- A table with a row more or less: which numbers are in use, and which row stands at each.
use Prim.Native.Nat.{ℕ, zero, suc, ◌-◌, ◌≤◌, ◌<◌, max}
use mathlib.Core.Bool.{Bool, true, false, not, cond, ◌&&◌, false≢true}
use mathlib.Core.List.{List, [], ◌∷◌}
use mathlib.Core.Path.{◌≡◌, refl, sym, ◌∙◌, ap}
use native.Mathlib.Omega.{arith}
use lib.ListN.{length, get_or, set, length-set}
use borrow.Author.Tests.{eqb-true, not-true}
use Rattle.table.specs.declared.Class.{Class}
use Rattle.table.specs.declared.Class.TheVariants.{A, B}
use Rattle.table.specs.declared.Pace.{Pace}
use Rattle.table.specs.declared.Pace.TheVariants.{Period, Rated}
use Rattle.table.specs.declared.Row.{Row}
use Rattle.table.specs.Rows.{no_row, is_zero, is_there, Contents, row_at, InUse, rows_with, before, trimmed, rows_without, with_row, without_row, same_class}

-- ---- a row that is not there is zeros
both : (a b : Bool) → (a && b) ≡ true → (a ≡ true) × (b ≡ true)
both true b e = (refl, e)
both false b e = absurd (false≢true e)

negated : (b : Bool) → not b ≡ false → b ≡ true
negated true e = refl
negated false e = absurd (false≢true (sym e))

class_a : (c : Class) → same_class A c ≡ true → c ≡ A
class_a A e = refl
class_a B e = absurd (false≢true e)

no_pace : (p : Pace) → is_zero p ≡ true → p ≡ Period 0
no_pace (Period n) e = ap Period (eqb-true n 0 e)
no_pace (Rated samples rate) e = absurd (false≢true e)

pub not_there : (r : Row) → is_there r ≡ false → r ≡ no_row
unfolding is_there
not_there r e =
    let p = both _ _ (negated _ e) in
    let q = both _ _ p.0 in
    let a = both _ _ q.0 in
    let z = both _ _ p.1 in
    let c = class_a r.class a.0 in
    let g = not-true r.tagged a.1 in
    let n = eqb-true r.payload 0 q.1 in
    let s = no_pace r.pace z.0 in
    let d = eqb-true r.deadline 0 z.1 in
    λ i. record { class = c i; tagged = g i; payload = n i; pace = s i; deadline = d i }

pub no_row_there : is_there no_row ≡ false
unfolding is_there
no_row_there = refl

-- a row that is there stands below the count
pub there_below : (rs : List Row) (k : ℕ) → is_there (get_or rs k no_row) ≡ true → k < length rs
there_below [] k e = absurd (false≢true (sym no_row_there ∙ e))
there_below (r ∷ rs) zero e = omega arith
there_below (r ∷ rs) (suc k) e = omega (arith, there_below rs k e)

pub there_used : (t : Contents) (k : ℕ) → is_there (row_at t k) ≡ true → InUse t k
there_used t k e = record { below = there_below t.rows k e; there = e }

-- ---- a row more
pub with_length : (k : ℕ) (r : Row) (rs : List Row) → length (rows_with k r rs) ≡ max (length rs) (suc k)
unfolding rows_with
with_length zero r [] = refl
with_length zero r (x ∷ rs) = omega arith
with_length (suc k) r [] = omega (arith, with_length k r [])
with_length (suc k) r (x ∷ rs) = omega (arith, with_length k r rs)

pub with_same : (k : ℕ) (r : Row) (rs : List Row) → get_or (rows_with k r rs) k no_row ≡ r
unfolding rows_with
with_same zero r [] = refl
with_same zero r (x ∷ rs) = refl
with_same (suc k) r [] = with_same k r []
with_same (suc k) r (x ∷ rs) = with_same k r rs

pub with_other : (k : ℕ) (r : Row) (rs : List Row) (j : ℕ) → (j ≡ k → ⊥) → get_or (rows_with k r rs) j no_row ≡ get_or rs j no_row
unfolding rows_with
with_other zero r [] zero h = absurd (h refl)
with_other zero r [] (suc j) h = refl
with_other zero r (x ∷ rs) zero h = absurd (h refl)
with_other zero r (x ∷ rs) (suc j) h = refl
with_other (suc k) r [] zero h = refl
with_other (suc k) r [] (suc j) h = with_other k r [] j (λ e. h (ap suc e))
with_other (suc k) r (x ∷ rs) zero h = refl
with_other (suc k) r (x ∷ rs) (suc j) h = with_other k r rs j (λ e. h (ap suc e))

-- ---- a row less
trimmed_same : (rs : List Row) (j : ℕ) → get_or (trimmed rs) j no_row ≡ get_or rs j no_row
unfolding trimmed
trimmed_same [] j = refl
trimmed_same (r ∷ rs) j = go (trimmed rs) (trimmed_same rs) j
  where
    alone : (b : Bool) → is_there r ≡ b → ((i : ℕ) → no_row ≡ get_or rs i no_row) → (j : ℕ) → get_or (cond b (r ∷ []) []) j no_row ≡ get_or (r ∷ rs) j no_row
    alone true e rest zero = refl
    alone true e rest (suc j) = rest j
    alone false e rest zero = sym (not_there r e)
    alone false e rest (suc j) = rest j

    go : (xs : List Row) → ((i : ℕ) → get_or xs i no_row ≡ get_or rs i no_row) → (j : ℕ) → get_or (before r xs) j no_row ≡ get_or (r ∷ rs) j no_row
    go [] rest j = alone (is_there r) refl rest j
    go (x ∷ xs) rest zero = refl
    go (x ∷ xs) rest (suc j) = rest j

pub trimmed_length : (rs : List Row) → length (trimmed rs) ≤ length rs
unfolding trimmed
trimmed_length [] = omega arith
trimmed_length (r ∷ rs) = go (trimmed rs) (trimmed_length rs)
  where
    alone : (b : Bool) → length (cond b (r ∷ []) []) ≤ suc (length rs)
    alone true = omega arith
    alone false = omega arith

    go : (xs : List Row) → length xs ≤ length rs → length (before r xs) ≤ suc (length rs)
    go [] h = alone (is_there r)
    go (x ∷ xs) h = omega arith

-- what is left has its last row there
trimmed_top : (rs : List Row) → 1 ≤ length (trimmed rs) → is_there (get_or (trimmed rs) (length (trimmed rs) - 1) no_row) ≡ true
unfolding trimmed
trimmed_top [] h = absurd (omega arith)
trimmed_top (r ∷ rs) h = go (trimmed rs) h (trimmed_top rs)
  where
    alone : (b : Bool) → is_there r ≡ b → 1 ≤ length (cond b (r ∷ []) []) → is_there (get_or (cond b (r ∷ []) []) (length (cond b (r ∷ []) []) - 1) no_row) ≡ true
    alone true e h = e
    alone false e h = absurd (omega arith)

    go : (xs : List Row) → 1 ≤ length (before r xs) → (1 ≤ length xs → is_there (get_or xs (length xs - 1) no_row) ≡ true) → is_there (get_or (before r xs) (length (before r xs) - 1) no_row) ≡ true
    go [] h rest = alone (is_there r) refl h
    go (x ∷ xs) h rest = let e : suc (suc (length xs)) - 1 ≡ suc (suc (length xs) - 1) = omega arith in rw e (rest (omega arith))

set_same : (rs : List Row) (k : ℕ) → get_or (set rs k no_row) k no_row ≡ no_row
set_same [] k = refl
set_same (r ∷ rs) zero = refl
set_same (r ∷ rs) (suc k) = set_same rs k

set_other : (rs : List Row) (k j : ℕ) → (j ≡ k → ⊥) → get_or (set rs k no_row) j no_row ≡ get_or rs j no_row
set_other [] k j h = refl
set_other (r ∷ rs) zero zero h = absurd (h refl)
set_other (r ∷ rs) zero (suc j) h = refl
set_other (r ∷ rs) (suc k) zero h = refl
set_other (r ∷ rs) (suc k) (suc j) h = set_other rs k j (λ e. h (ap suc e))

pub without_same : (k : ℕ) (rs : List Row) → get_or (rows_without k rs) k no_row ≡ no_row
unfolding rows_without
without_same k rs = trimmed_same (set rs k no_row) k ∙ set_same rs k

pub without_other : (k : ℕ) (rs : List Row) (j : ℕ) → (j ≡ k → ⊥) → get_or (rows_without k rs) j no_row ≡ get_or rs j no_row
unfolding rows_without
without_other k rs j h = trimmed_same (set rs k no_row) j ∙ set_other rs k j h

pub without_length : (k : ℕ) (rs : List Row) → length (rows_without k rs) ≤ length rs
unfolding rows_without
without_length k rs = rw (length-set rs k no_row) at (trimmed_length (set rs k no_row))

-- ---- numbers in use
module _ (t : Contents) (k : ℕ) (r : Row) where
  pub row_with : row_at (with_row k r t) k ≡ r
  unfolding with_row
  row_with = with_same k r t.rows

  pub row_with_other : (j : ℕ) → (j ≡ k → ⊥) → row_at (with_row k r t) j ≡ row_at t j
  unfolding with_row
  row_with_other j h = with_other k r t.rows j h

  pub with_used : is_there r ≡ true → InUse (with_row k r t) k
  with_used e = there_used (with_row k r t) k (rw row_with e)

  pub with_still : (j : ℕ) → (j ≡ k → ⊥) → InUse t j → InUse (with_row k r t) j
  with_still j h u = there_used (with_row k r t) j (rw (row_with_other j h) u.there)

  pub with_before : (j : ℕ) → (j ≡ k → ⊥) → InUse (with_row k r t) j → InUse t j
  with_before j h u = there_used t j (rw (row_with_other j h) at u.there)

module _ (t : Contents) (k : ℕ) where
  pub row_without : (j : ℕ) → (j ≡ k → ⊥) → row_at (without_row k t) j ≡ row_at t j
  unfolding without_row
  row_without j h = without_other k t.rows j h

  pub without_gone : InUse (without_row k t) k → ⊥
  unfolding without_row
  without_gone u = false≢true (sym no_row_there ∙ rw (without_same k t.rows) at u.there)

  pub without_before : (j : ℕ) → InUse (without_row k t) j → (j ≡ k → ⊥) × InUse t j
  without_before j u =
      let other : j ≡ k → ⊥ = λ e. without_gone (rw e at u) in
      (other, there_used t j (rw (row_without j other) at u.there))

  -- the count of what is left is right, if a row is left
  pub without_count : 1 ≤ length (without_row k t).rows → InUse (without_row k t) (length (without_row k t).rows - 1)
  unfolding without_row rows_without
  without_count h = there_used (without_row k t) _ (trimmed_top (set t.rows k no_row) h)
