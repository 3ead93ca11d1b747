-- The instants and the bounds of a table's numbers where no place has one.
use Prim.Native.Nat.{ℕ, zero, suc, ◌-◌}
use mathlib.Core.Bool.{Bool, true, false, cond}
use mathlib.Core.List.{List, [], ◌∷◌, ◌++◌}
use mathlib.Core.Path.{◌≡◌, refl, ap}
use native.Mathlib.Omega.{arith}
use lib.ListN.{length, take, replicate, length-replicate}
use Rattle.std.specs.declared.option.Option.TheVariants.{None}
use Rattle.table.specs.declared.Row.{Row}
use Rattle.table.specs.Rows.{is_there}
use Rattle.machine.specs.State.{Instant, never, instants_for, instants_of, kept_of}

-- no number has an instant where none of the places has one
pub no_instants : (rs : List Row) (m : ℕ) → instants_of rs (replicate m None) ≡ replicate (length rs) never
unfolding instants_for
no_instants [] m = refl
no_instants (r ∷ rs) zero = ap (λ (l : List Instant). never ∷ l) (no_instants rs zero)
no_instants (r ∷ rs) (suc m) = let same : cond {A = Instant} (is_there r) never never ≡ never = go (is_there r) in rw same (ap (λ (l : List Instant). never ∷ l) (no_instants rs m))
  where
    go : (b : Bool) → cond {A = Instant} b never never ≡ never
    go true = refl
    go false = refl

-- zeros in all places are zeros for each number
zeros : (n m : ℕ) → take n (replicate {A = ℕ} m 0) ++ replicate (n - m) 0 ≡ replicate n 0
zeros zero m = let e : 0 - m ≡ 0 = omega arith in rw e refl
zeros (suc n) zero = let e : suc n - 0 ≡ suc n = omega arith in rw e refl
zeros (suc n) (suc m) = let e : suc n - suc m ≡ n - m = omega arith in rw e (ap (λ (l : List ℕ). 0 ∷ l) (zeros n m))

pub no_bounds : (n m : ℕ) → kept_of n (replicate m 0) ≡ replicate n 0
unfolding kept_of
no_bounds n m = rw (length-replicate {A = ℕ} m 0) (zeros n m)
