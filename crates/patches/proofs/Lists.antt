-- Rows and instants, number by number, where a row joins or leaves.
use Prim.Native.Nat.{ℕ, zero, suc, ◌≤◌, ◌<◌}
use mathlib.Core.Bool.{Bool, true, false, cond}
use mathlib.Core.List.{List, [], ◌∷◌, ◌++◌, map}
use mathlib.Core.Path.{◌≡◌, refl, sym, ap}
use native.Mathlib.Nat.{le_of_suc-le-suc}
use native.Mathlib.Omega.{arith}
use lib.ListN.{length, get_or, set, take}
use Rattle.std.specs.declared.option.Option.{Option}
use Rattle.table.specs.declared.Row.{Row}
use Rattle.table.specs.Rows.{no_row, is_there, rows_with, before, trimmed}
use Rattle.table.proofs.Laws as table
use Rattle.machine.specs.State.{Instant, never, instant_of, instants_for}
use Rattle.machine.proofs.Instants.{for_again}

-- ---- lists that have the same rows
pub same_rows : (xs ys : List Row) → length xs ≡ length ys → ((j : ℕ) → j < length xs → get_or xs j no_row ≡ get_or ys j no_row) → xs ≡ ys
same_rows [] [] n h = refl
same_rows [] (y ∷ ys) n h = absurd (omega arith)
same_rows (x ∷ xs) [] n h = absurd (omega arith)
same_rows (x ∷ xs) (y ∷ ys) n h =
    let e : x ≡ y = h 0 (omega arith) in
    let es : xs ≡ ys = same_rows xs ys (omega arith) (λ j g. h (suc j) (omega arith)) in
    λ i. e i ∷ es i

-- behind a list there is no row
pub behind : (rs : List Row) (j : ℕ) → length rs ≤ j → get_or rs j no_row ≡ no_row
behind [] j h = refl
behind (r ∷ rs) zero h = absurd (omega arith)
behind (r ∷ rs) (suc j) h = behind rs j (le_of_suc-le-suc h)

-- ---- up to the last row that is there
pub trimmed_there : (rs : List Row) (r : Row) → is_there r ≡ true → trimmed (rs ++ r ∷ []) ≡ rs ++ r ∷ []
unfolding trimmed
trimmed_there [] r e = rw e refl
trimmed_there (x ∷ rs) r e = rw (trimmed_there rs r e) (go rs)
  where
    go : (ys : List Row) → before x (ys ++ r ∷ []) ≡ x ∷ (ys ++ r ∷ [])
    go [] = refl
    go (y ∷ ys) = refl

pub trimmed_empty : (rs : List Row) (r : Row) → is_there r ≡ false → trimmed (rs ++ r ∷ []) ≡ trimmed rs
unfolding trimmed
trimmed_empty [] r e = rw e refl
trimmed_empty (x ∷ rs) r e = rw (trimmed_empty rs r e) refl

pub trimmed_front : (rs : List Row) → take (length (trimmed rs)) rs ≡ trimmed rs
unfolding trimmed
trimmed_front [] = refl
trimmed_front (r ∷ rs) = go (trimmed rs) (trimmed_front rs)
  where
    alone : (b : Bool) → take (length (cond b (r ∷ []) [])) (r ∷ rs) ≡ cond b (r ∷ []) []
    alone true = refl
    alone false = refl

    go : (xs : List Row) → take (length xs) rs ≡ xs → take (length (before r xs)) (r ∷ rs) ≡ before r xs
    go [] h = alone (is_there r)
    go (x ∷ xs) h = ap (λ (l : List Row). r ∷ l) h

-- ---- instants
never_both : (b : Bool) → cond {A = Instant} b never never ≡ never
never_both true = refl
never_both false = refl

same_twice : (b : Bool) (i : Instant) → cond b i never ≡ cond b (cond b i never) never
same_twice true i = refl
same_twice false i = refl

pub map_set : (ls : List (Option ℕ)) (k : ℕ) (l : Option ℕ) → map instant_of (set ls k l) ≡ set (map instant_of ls) k (instant_of l)
map_set [] k l = refl
map_set (x ∷ ls) zero l = refl
map_set (x ∷ ls) (suc k) l = ap (λ (is : List Instant). instant_of x ∷ is) (map_set ls k l)

-- the places' instants and those of the numbers in use make the same where a row has joined
pub joined_instants : (k : ℕ) (r : Row) (rs : List Row) (is : List Instant) → k < length is → instants_for (rows_with k r rs) (set is k never) ≡ instants_for (rows_with k r rs) (set (instants_for rs is) k never)
unfolding rows_with instants_for
joined_instants k r rs [] h = absurd (omega arith)
joined_instants zero r [] (i ∷ is) h = rw (never_both (is_there r)) refl
joined_instants zero r (x ∷ rs) (i ∷ is) h = ap (λ (l : List Instant). cond (is_there r) never never ∷ l) (sym (for_again rs is))
joined_instants (suc k) r [] (i ∷ is) h = rw table.no_row_there (ap (λ (l : List Instant). never ∷ l) (joined_instants k r [] is (le_of_suc-le-suc h)))
joined_instants (suc k) r (x ∷ rs) (i ∷ is) h =
    let e = same_twice (is_there x) i in
    let es = joined_instants k r rs is (le_of_suc-le-suc h) in
    λ j. e j ∷ es j

-- and where one has left
pub left_instants : (ys rs : List Row) (is : List Instant) → length ys ≤ length rs → ((j : ℕ) → is_there (get_or ys j no_row) ≡ true → is_there (get_or rs j no_row) ≡ true) → instants_for ys is ≡ instants_for ys (instants_for rs is)
unfolding instants_for
left_instants [] rs is n h = refl
left_instants (y ∷ ys) [] is n h = absurd (omega arith)
left_instants (y ∷ ys) (r ∷ rs) [] n h =
    let e : never ≡ cond {A = Instant} (is_there y) never never = sym (never_both (is_there y)) in
    let es = left_instants ys rs [] (le_of_suc-le-suc n) (λ j g. h (suc j) g) in
    λ j. e j ∷ es j
left_instants (y ∷ ys) (r ∷ rs) (i ∷ is) n h =
    let e : cond (is_there y) i never ≡ cond (is_there y) (cond (is_there r) i never) never = go (is_there y) refl in
    let es = left_instants ys rs is (le_of_suc-le-suc n) (λ j g. h (suc j) g) in
    λ j. e j ∷ es j
  where
    go : (b : Bool) → is_there y ≡ b → cond b i never ≡ cond b (cond (is_there r) i never) never
    go true e = rw (h 0 e) refl
    go false e = refl
