-- The test of the instants, turn by turn.
use Prim.Native.Nat.{ℕ, zero, suc, ◌+◌, ◌≤◌, ◌<◌}
use mathlib.Core.Bool.{Bool, true, false, not, cond}
use mathlib.Core.List.{List, [], ◌∷◌, map}
use mathlib.Core.Path.{◌≡◌, refl, sym, ap}
use native.Mathlib.Nat.{le_of_suc-le-suc}
use native.Mathlib.Numerals.{add-one}
use native.Mathlib.Omega.{arith}
use lib.Dec.{eqb}
use lib.ListN.{length, get_or, drop, drop_of_length-le}
use lib.Seq.{drop-cons}
use borrow.Author.Tests.{ne_eqb}
use Rattle.std.specs.declared.option.Option.{Option}
use Rattle.std.specs.declared.option.Option.TheVariants.{None}
use Rattle.table.specs.declared.Row.{Row}
use Rattle.table.specs.Rows.{is_there, Contents}
use Rattle.table.proofs.Laws.{fails, holds}
use Rattle.planner.specs.Bound.{bound, if_there, bounds_of}
use Rattle.planner.proofs.Laws as law
use Rattle.machine.specs.State.{Instant, never, instant_of, instants_for, instants_of}
use Rattle.machine.specs.Record.{not_after, none_after}
use Rattle.record.specs.Steps.{instant_if, instants_by}

-- ---- instants
-- by the bounds: as many, each at its place
pub by_length : (bs : List ℕ) (ls : List (Option ℕ)) → length (instants_by bs ls) ≡ length bs
unfolding instants_by
by_length [] ls = refl
by_length (b ∷ bs) [] = ap suc (by_length bs [])
by_length (b ∷ bs) (l ∷ ls) = ap suc (by_length bs ls)

never_if : (b : Bool) → cond {A = Instant} b never never ≡ never
never_if true = refl
never_if false = refl

pub by_at : (bs : List ℕ) (ls : List (Option ℕ)) (k : ℕ) → k < length bs → get_or (instants_by bs ls) k never ≡ instant_if (get_or bs k 0) (get_or ls k None)
unfolding instants_by
by_at [] ls k h = absurd (omega arith)
by_at (b ∷ bs) [] zero h = sym (never_if (eqb b 0))
by_at (b ∷ bs) [] (suc k) h = by_at bs [] k (le_of_suc-le-suc h)
by_at (b ∷ bs) (l ∷ ls) zero h = refl
by_at (b ∷ bs) (l ∷ ls) (suc k) h = by_at bs ls k (le_of_suc-le-suc h)

-- those of a table's bounds are those of its numbers: a row has a bound, and an empty number has none
bounds_by : (t : Contents) (rs : List Row) (ls : List (Option ℕ)) → instants_by (map (if_there (bound t)) rs) ls ≡ instants_of rs ls
unfolding instants_by instants_for
bounds_by t [] ls = refl
bounds_by t (r ∷ rs) [] = ap (λ (l : List Instant). never ∷ l) (bounds_by t rs [])
bounds_by t (r ∷ rs) (l ∷ ls) = rw (bounds_by t rs ls, same (is_there r)) refl
  where
    same : (b : Bool) → instant_if (cond b (bound t r) 0) l ≡ cond b (instant_of l) never
    same true = rw (ne_eqb (bound t r) 0 (λ e. omega (arith, law.bound_some t r))) refl
    same false = refl

pub by_bounds : (t : Contents) (ls : List (Option ℕ)) → instants_by (bounds_of t) ls ≡ instants_of t.rows ls
unfolding bounds_of
by_bounds t ls = bounds_by t t.rows ls

-- turn by turn
module _ (now : ℕ) (is : List Instant) (i : ℕ) where
  pub late_here : i < length is → {r : Bool} → r ≡ not_after now (get_or is i never) → not r ≡ true → none_after now (drop i is) ≡ false
  late_here h e f = rw (drop-cons is i never h, fails e f) refl

  pub past_here : i < length is → {r : Bool} → r ≡ not_after now (get_or is i never) → not r ≡ false → none_after now (drop i is) ≡ none_after now (drop (i + 1) is)
  past_here h e f = rw (add-one, drop-cons is i never h, holds e f) refl

  pub past_all : length is ≤ i → none_after now (drop i is) ≡ true
  past_all h = rw (drop_of_length-le is {i = i} h) refl
