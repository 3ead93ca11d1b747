-- Rules 3 and 5 by a table record's own count, its header and how many of its rows are in range: each check that fails decides.
use Prim.Native.Nat.{ℕ, ◌-◌, ◌≤◌, ◌<◌}
use mathlib.Core.Bool.{true, false, ◌&&◌, false≢true}
use mathlib.Core.Logic.{⊎_elim}
use mathlib.Core.Path.{◌≡◌, refl, sym, ◌∙◌}
use lib.Dec.{leb}
use native.Mathlib.Nat.{eq-zero-or-pos}
use native.Mathlib.Omega.{arith}
use borrow.Author.Tests.{le-leb, lt-leb}
use Rattle.std.proofs.lemmas.Bool.Decides.{nat_tests}
use Rattle.table.specs.declared.Table.{Table}
use Rattle.table.specs.Rows.{rows_of, contents}
use Rattle.table.specs.Checks.{accepted, refused, passing}
use Rattle.table.specs.Ranges.{count_ok, header_ok, row_ok, ranged}
use Rattle.table.proofs.Shape.{rows_length}

module _ (t : Table) where
  pub count_is : (leb 1 t.count && leb t.count 32) ≡ count_ok (rows_of t)
  unfolding count_ok
  count_is = rw (rows_length t) refl

  pub count_few : count_ok (rows_of t) ≡ true → t.count ≤ 32
  count_few e = within t.count (count_is ∙ e)
    where
      within : (n : ℕ) → (leb 1 n && leb n 32) ≡ true → n ≤ 32
      within n h = grind (arith, nat_tests)

  pub count_right_lem : 1 ≤ t.count → t.count ≤ 32 → count_ok (rows_of t) ≡ true
  unfolding count_ok
  count_right_lem l h = rw (rows_length t, le-leb _ _ l, le-leb _ _ h) refl

  pub count_low : t.count < 1 → refused 3 0 ≡ ranged (contents t)
  unfolding ranged count_ok
  count_low h = rw (rows_length t, lt-leb _ _ h) refl

  pub count_high : 1 ≤ t.count → 32 < t.count → refused 3 0 ≡ ranged (contents t)
  unfolding ranged count_ok
  count_high l h = rw (rows_length t, le-leb _ _ l, lt-leb _ _ h) refl

  -- so a count that is wrong is refused, too low or too high
  pub count_wrong : count_ok (rows_of t) ≡ false → refused 3 0 ≡ ranged (contents t)
  count_wrong e = ⊎_elim (λ z. count_low (omega (arith, z))) some (eq-zero-or-pos t.count)
    where
      some : 0 < t.count → refused 3 0 ≡ ranged (contents t)
      some l = ⊎_elim (λ z. absurd (false≢true (sym e ∙ count_right_lem l (omega (arith, z))))) (λ h. count_high l (omega (arith, h))) (eq-zero-or-pos (t.count - 32))

  module _ (e : count_ok (rows_of t) ≡ true) where
    pub header_wrong : header_ok t.header ≡ false → refused 5 32 ≡ ranged (contents t)
    unfolding ranged
    header_wrong h = rw (e, h) refl

    module _ (h : header_ok t.header ≡ true) {k : ℕ} (p : k ≡ passing row_ok (rows_of t)) where
      pub row_wrong : k < t.count → refused 5 k ≡ ranged (contents t)
      unfolding ranged
      row_wrong l = rw (e, h, ← p, rows_length t, lt-leb _ _ l) refl

      pub all_right : t.count ≤ k → accepted ≡ ranged (contents t)
      unfolding ranged
      all_right l = rw (e, h, ← p, rows_length t, le-leb _ _ l) refl
