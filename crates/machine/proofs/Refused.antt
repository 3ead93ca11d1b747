-- The port of a table that opening refuses: its bounds are zeros, and a row in use has none of 0. So the record is broken.
use Prim.Native.Nat.{ℕ, zero, suc, ◌-◌}
use mathlib.Core.Bool.{Bool, true, false, false≢true}
use mathlib.Core.List.{List, [], ◌∷◌}
use mathlib.Core.Path.{◌≡◌, refl}
use native.Mathlib.Omega.{arith}
use lib.Dec.{eqb}
use lib.ListN.{length, get_or, replicate}
use borrow.Author.Tests.{eqb-true}
use Rattle.table.specs.Rows.{Contents, row_at, count_right}
use Rattle.table.specs.Checks.{refused}
use Rattle.table.proofs.Laws as table
use Rattle.planner.specs.Bound.{bounds_of}
use Rattle.planner.specs.Opening.{opening}
use Rattle.planner.proofs.Laws as law
use Rattle.machine.specs.State.{fresh}
use Rattle.machine.specs.Record.{same_numbers, count_sound, bounds_sound, sound}
use Rattle.machine.specs.Calls.{offer, offer_best, advance, join, leave, offer_check, best_check, advance_check, join_check, leave_check, RefusedBreaks}
use Rattle.machine.proofs.Clauses.{Clauses, clauses}

same_at : (xs ys : List ℕ) → same_numbers xs ys ≡ true → (k : ℕ) → get_or xs k 0 ≡ get_or ys k 0
same_at [] [] e k = refl
same_at [] (y ∷ ys) e k = absurd (false≢true e)
same_at (x ∷ xs) [] e k = absurd (false≢true e)
same_at (x ∷ xs) (y ∷ ys) e zero = eqb-true x y (table.and-true (eqb x y) (same_numbers xs ys) e).0
same_at (x ∷ xs) (y ∷ ys) e (suc k) = same_at xs ys (table.and-true (eqb x y) (same_numbers xs ys) e).1 k

zeros_at : (n k : ℕ) → ◌≡◌ {A = ℕ} (get_or (replicate n 0) k 0) 0
zeros_at zero k = refl
zeros_at (suc n) zero = refl
zeros_at (suc n) (suc k) = zeros_at n k

breaks : (t : Contents) (n p : ℕ) → opening t ≡ refused n p → sound (fresh t) ≡ false
unfolding fresh count_sound count_right bounds_sound
breaks t n p e = go (sound (fresh t)) refl
  where
    clash : Clauses (fresh t) → ⊥
    clash c =
        let k = length t.rows - 1 in
        let u = table.is_used t k c.count in
        omega (arith, law.bound_some t (row_at t k), law.bound_at t k u, same_at (replicate (length t.rows) 0) (bounds_of t) (rw e at c.bounds) k, zeros_at (length t.rows) k)

    go : (b : Bool) → sound (fresh t) ≡ b → b ≡ false
    go false q = refl
    go true q = absurd (clash (clauses (fresh t) q))

pub refused_breaks : RefusedBreaks
unfolding offer_check best_check advance_check join_check leave_check
refused_breaks t n p e (offer k x) = rw (breaks t n p e) refl
refused_breaks t n p e (offer_best x) = rw (breaks t n p e) refl
refused_breaks t n p e (advance x) = rw (breaks t n p e) refl
refused_breaks t n p e (join k r) = rw (breaks t n p e) refl
refused_breaks t n p e (leave k) = rw (breaks t n p e) refl
