-- A class's figures, row by row: what the loop has, joined with what is left, is the whole.
use Prim.Native.Nat.{ℕ, ◌+◌, ◌≤◌, ◌<◌, max}
use mathlib.Core.List.{List}
use mathlib.Core.Path.{◌≡◌, sym, ◌∙◌}
use native.Mathlib.Numerals.{add-one}
use native.Mathlib.Nat.{add-zero, zero-add, max-zero, zero-max, add_assoc}
use native.Mathlib.Omega.{arith}
use lib.ListN.{length, get_or, drop, drop_of_length-le}
use lib.Seq.{drop-cons}
use Rattle.table.specs.declared.Class.{Class}
use Rattle.table.specs.declared.Row.{Row}
use Rattle.table.specs.Wire.{size_of, share_of}
use Rattle.table.specs.Rows.{no_row}
use Rattle.figures.specs.declared.Figures.{Figures}
use Rattle.planner.specs.Sums.{part, sum_over, max_over}
use Rattle.figures.specs.Steps.{joined}
use Rattle.planner.specs.Steps.{figures_in}

pub record Remaining (c : Class) (rs : List Row) (i : ℕ) (f : Figures) : Type 0 where
  pub members : f.members + sum_over c (λ r. 1) (drop i rs) ≡ sum_over c (λ r. 1) rs
  pub largest : max f.largest (max_over c size_of (drop i rs)) ≡ max_over c size_of rs
  pub total : f.total + sum_over c size_of (drop i rs) ≡ sum_over c size_of rs
  pub shares : f.shares + sum_over c share_of (drop i rs) ≡ sum_over c share_of rs

module _ (c : Class) (rs : List Row) where
  pub at_start : Remaining c rs 0 (record { members = 0; largest = 0; total = 0; shares = 0 })
  at_start = record { members = zero-add _; largest = zero-max _; total = zero-add _; shares = zero-add _ }

  module _ (i : ℕ) where
    pub sum_turn : (g : Row → ℕ) (a : ℕ) → i < length rs → a + part c g (get_or rs i no_row) + sum_over c g (drop (i + 1) rs) ≡ a + sum_over c g (drop i rs)
    unfolding sum_over
    sum_turn g a h = rw (add-one, drop-cons rs i no_row h) (add_assoc _ _ _)

    pub sum_end : (g : Row → ℕ) (a : ℕ) → length rs ≤ i → a + sum_over c g (drop i rs) ≡ a
    unfolding sum_over
    sum_end g a h = rw (drop_of_length-le rs {i = i} h) (add-zero a)

    max_turn : (g : Row → ℕ) (a : ℕ) → i < length rs → max (max a (part c g (get_or rs i no_row))) (max_over c g (drop (i + 1) rs)) ≡ max a (max_over c g (drop i rs))
    unfolding max_over
    max_turn g a h = rw (add-one, drop-cons rs i no_row h) (omega arith)

    pub after_turn : (f : Figures) → i < length rs → Remaining c rs i f → Remaining c rs (i + 1) (joined f c (get_or rs i no_row))
    after_turn f h r =
        record {
          members = sum_turn (λ x. 1) f.members h ∙ r.members;
          largest = max_turn size_of f.largest h ∙ r.largest;
          total = sum_turn size_of f.total h ∙ r.total;
          shares = sum_turn share_of f.shares h ∙ r.shares;
        }

    pub at_end : (f : Figures) → length rs ≤ i → Remaining c rs i f → f ≡ figures_in c rs
    unfolding max_over
    at_end f h r =
        let m = sym (sum_end (λ x. 1) f.members h) ∙ r.members in
        let l = rw (drop_of_length-le rs {i = i} h, max-zero) at r.largest in
        let s = sym (sum_end size_of f.total h) ∙ r.total in
        let q = sym (sum_end share_of f.shares h) ∙ r.shares in
        λ k. record { members = m k; largest = l k; total = s k; shares = q k }
