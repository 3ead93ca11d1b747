-- The search for the lowest row that fails a test, turn by turn.
use Prim.Native.Nat.{ℕ, suc, ◌+◌, ◌≤◌, ◌<◌}
use mathlib.Core.List.{List}
use mathlib.Core.Path.{◌≡◌, refl}
use mathlib.Core.Bool.{Bool, true, false, not, cond}
use lib.Dec.{ltb}
use native.Mathlib.Numerals.{add-one, one-add}
use native.Mathlib.Omega.{arith}
use lib.ListN.{length, get_or, drop, drop_of_length-le}
use lib.Seq.{drop-cons}
use Rattle.std.specs.Prelude.{Some, None}
use Rattle.std.specs.List.{position, position_or_len}
use Rattle.std.proofs.lemmas.Bool.Decides.{nat_tests}
use Rattle.std.proofs.lemmas.List.Recursion.{is_position_or_len}
use Rattle.table.specs.declared.Row.{Row}
use Rattle.table.specs.Rows.{no_row}
use Rattle.table.specs.Checks.{passing}

-- the first i rows pass
abbrev pub Passed : (Row → Bool) → List Row → ℕ → Type 0
Passed ok rs i = passing ok rs ≡ i + passing ok (drop i rs)

module _ (ok : Row → Bool) (rs : List Row) where
  pub none_yet : Passed ok rs 0
  none_yet = omega arith

  module _ (i : ℕ) (so_far : Passed ok rs i) where
    pub fails_here : i < length rs → ok (get_or rs i no_row) ≡ false → i ≡ passing ok rs
    unfolding passing
    fails_here h e = let z : passing ok (drop i rs) ≡ 0 = rw (drop-cons rs i no_row h, e) refl in omega arith

    pub passes_here : i < length rs → ok (get_or rs i no_row) ≡ true → Passed ok rs (i + 1)
    unfolding passing
    passes_here h e = let z : passing ok (drop i rs) ≡ suc (passing ok (drop (suc i) rs)) = rw (drop-cons rs i no_row h, e) refl in rw (add-one i) (omega arith)

    pub all_passed : length rs ≤ i → i ≡ passing ok rs
    unfolding passing
    all_passed h = let z : passing ok (drop i rs) ≡ 0 = rw (drop_of_length-le rs {i = i} h) refl in omega arith

-- the place of the first row that fails is how many pass before it
passing_is : (ok : Row → Bool) (rs : List Row) → passing ok rs ≡ position_or_len (λ r. not (ok r)) rs
unfolding passing
passing_is ok rs = is_position_or_len (passing ok) (λ r. not (ok r)) refl (λ r _. turned (ok r) _) rs
  where
    turned : (b : Bool) (n : ℕ) → cond b (suc n) 0 ≡ cond (not b) 0 (1 + n)
    turned true n = rw one-add refl
    turned false n = refl

pub found_at : (ok : Row → Bool) (rs : List Row) (k : ℕ) → position (λ r. not (ok r)) rs ≡ Some k → (k ≡ passing ok rs) × (k < length rs)
found_at ok rs k e = rw (passing_is ok rs) (here _ _ e)
  where
    here : (m n : ℕ) → cond (ltb m n) (Some m) None ≡ Some k → (k ≡ m) × (k < n)
    here m n g = (grind (arith, nat_tests), grind (arith, nat_tests))

pub none_found : (ok : Row → Bool) (rs : List Row) → position (λ r. not (ok r)) rs ≡ None → length rs ≤ passing ok rs
none_found ok rs e = rw (passing_is ok rs) (nowhere _ _ e)
  where
    nowhere : (m n : ℕ) → cond (ltb m n) (Some m) None ≡ None → n ≤ m
    nowhere m n g = grind (arith, nat_tests)
