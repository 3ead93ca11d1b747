-- The instants of a table's numbers: one for each, none at an empty one.
use Prim.Native.Nat.{ℕ, zero, suc, ◌<◌}
use mathlib.Core.Bool.{Bool, true, false, cond, false≢true}
use mathlib.Core.List.{List, [], ◌∷◌}
use mathlib.Core.Path.{◌≡◌, refl, sym, ◌∙◌, ap}
use native.Mathlib.Nat.{le_of_suc-le-suc}
use native.Mathlib.Omega.{arith}
use lib.ListN.{length, get_or, set, replicate}
use Rattle.table.specs.declared.Row.{Row}
use Rattle.table.specs.Rows.{no_row, is_there}
use Rattle.table.proofs.Laws as table
use Rattle.machine.specs.State.{Instant, never, instants_for}

pub for_length : (rs : List Row) (is : List Instant) → length (instants_for rs is) ≡ length rs
unfolding instants_for
for_length [] is = refl
for_length (r ∷ rs) [] = ap suc (for_length rs [])
for_length (r ∷ rs) (i ∷ is) = ap suc (for_length rs is)

none : (rs : List Row) (k : ℕ) → get_or (instants_for rs []) k never ≡ never
unfolding instants_for
none [] k = refl
none (r ∷ rs) zero = refl
none (r ∷ rs) (suc k) = none rs k

pub for_at : (rs : List Row) (is : List Instant) (k : ℕ) → is_there (get_or rs k no_row) ≡ true → get_or (instants_for rs is) k never ≡ get_or is k never
unfolding instants_for
for_at [] is k e = absurd (false≢true (sym table.no_row_there ∙ e))
for_at (r ∷ rs) [] k e = none (r ∷ rs) k
for_at (r ∷ rs) (i ∷ is) zero e = rw e refl
for_at (r ∷ rs) (i ∷ is) (suc k) e = for_at rs is k e

pub for_again : (rs : List Row) (is : List Instant) → instants_for rs (instants_for rs is) ≡ instants_for rs is
unfolding instants_for
for_again [] is = refl
for_again (r ∷ rs) [] = let same : cond {A = Instant} (is_there r) never never ≡ never = go (is_there r) in rw same (ap (λ (l : List Instant). never ∷ l) (for_again rs []))
  where
    go : (b : Bool) → cond {A = Instant} b never never ≡ never
    go true = refl
    go false = refl
for_again (r ∷ rs) (i ∷ is) = let same : cond (is_there r) (cond (is_there r) i never) never ≡ cond (is_there r) i never = go (is_there r) in rw same (ap (λ (l : List Instant). cond (is_there r) i never ∷ l) (for_again rs is))
  where
    go : (b : Bool) → cond b (cond b i never) never ≡ cond b i never
    go true = refl
    go false = refl

pub for_set : (rs : List Row) (is : List Instant) (k : ℕ) (x : Instant) → is_there (get_or rs k no_row) ≡ true → k < length is → instants_for rs (set is k x) ≡ set (instants_for rs is) k x
unfolding instants_for
for_set rs [] k x e h = absurd (omega arith)
for_set [] (i ∷ is) k x e h = absurd (false≢true (sym table.no_row_there ∙ e))
for_set (r ∷ rs) (i ∷ is) zero x e h = rw e refl
for_set (r ∷ rs) (i ∷ is) (suc k) x e h = ap (λ (l : List Instant). cond (is_there r) i never ∷ l) (for_set rs is k x e (le_of_suc-le-suc h))

pub for_fresh : (rs : List Row) → instants_for rs (replicate (length rs) never) ≡ replicate (length rs) never
unfolding instants_for
for_fresh [] = refl
for_fresh (r ∷ rs) = let same : cond {A = Instant} (is_there r) never never ≡ never = go (is_there r) in rw same (ap (λ (l : List Instant). never ∷ l) (for_fresh rs))
  where
    go : (b : Bool) → cond {A = Instant} b never never ≡ never
    go true = refl
    go false = refl

-- an instant that is set, in places that hold more than the numbers in use
pub for_set_again : (rs : List Row) (is : List Instant) (k : ℕ) (x : Instant) → k < length is → instants_for rs (set is k x) ≡ instants_for rs (set (instants_for rs is) k x)
unfolding instants_for
for_set_again rs [] k x h = absurd (omega arith)
for_set_again [] (i ∷ is) k x h = refl
for_set_again (r ∷ rs) (i ∷ is) zero x h = ap (λ (l : List Instant). cond (is_there r) x never ∷ l) (sym (for_again rs is))
for_set_again (r ∷ rs) (i ∷ is) (suc k) x h =
    let same : cond (is_there r) (cond (is_there r) i never) never ≡ cond (is_there r) i never = go (is_there r) in
    rw same (ap (λ (l : List Instant). cond (is_there r) i never ∷ l) (for_set_again rs is k x (le_of_suc-le-suc h)))
  where
    go : (b : Bool) → cond b (cond b i never) never ≡ cond b i never
    go true = refl
    go false = refl
