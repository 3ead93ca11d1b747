-- What the notes of the rows tell: a row's frames are as they may be exactly if its count and its newest are and no two are too near each other.
use Prim.Native.Nat.{ℕ, suc, ◌≤◌, ◌<◌}
use mathlib.Core.Bool.{Bool, true, false, cond, ◌&&◌, and_assoc, and_comm}
use mathlib.Core.List.{List, [], ◌∷◌}
use mathlib.Core.Path.{◌≡◌, refl, sym, ◌∙◌}
use native.Mathlib.Omega.{arith}
use lib.Dec.{eqb}
use lib.ListN.{length, get_or}
use borrow.Author.Tests.{ne_eqb}
use Rattle.std.specs.declared.option.Option.{Option}
use Rattle.table.specs.declared.Table.{Table}
use Rattle.table.specs.Limits.{most_rows}
use Rattle.table.specs.Rows.{no_row, is_there, rows_of, contents, row_at}
use Rattle.table.proofs.Laws as table
use Rattle.figures.specs.declared.Lane.{Lane}
use Rattle.machine.specs.declared.Frame.{Frame}
use Rattle.machine.specs.State.{Instant, instants_of}
use Rattle.machine.specs.Record.{taken_in, up_to, spaced, is_at, newest_of, ends_at}
use Rattle.machine.proofs.Places.{instant_at_lem}
use Rattle.frames.specs.Tests.{limits_by}
use Rattle.frames.proofs.Laws.{limit_at}
use Rattle.spacing.specs.Spread.{spaced_test}
use Rattle.spacing.proofs.Laws.{every, up_to_same, up_to_both, empty_spaced}
use Rattle.tally.specs.Rows.{in_limit, instants_test, held_test, held_if}
use Rattle.notes.specs.Notes.{Notes, Apart}
use Rattle.tally.specs.Steps.{count_test, counts_test}

ends_same : (xs : List ℕ) (l : Instant) → cond (eqb (length xs) 0) true (is_at (newest_of xs) l) ≡ ends_at xs l
ends_same [] l = refl
ends_same (x ∷ xs) l = rw (ne_eqb (suc (length xs)) 0 (λ z. absurd (omega arith))) refl

by_parts : (p limit : ℕ) (l : Instant) (xs : List ℕ) → instants_test p limit l xs ≡ (count_test (length xs) (newest_of xs) l limit p && spaced p xs)
unfolding instants_test count_test
by_parts p limit l xs =
    rw (ends_same xs l, and_comm (spaced p xs) (ends_at xs l)) (sym (and_assoc (in_limit (length xs) p limit) (ends_at xs l) (spaced p xs)))

module _ (t : Table) (long : length t.rows ≡ most_rows) (few : t.count ≤ most_rows) (fs : List Frame) where
  module _ (ofa ofb : Lane) (last : List (Option ℕ)) {newest counts : List ℕ} (n : Notes fs newest counts) where
    used_told : (k : ℕ) → k < t.count → is_there (get_or t.rows k no_row) ≡ true → held_if (contents t) (limits_by ofa ofb t.rows) (instants_of (rows_of t) last) fs k ≡ (counts_test t ofa ofb last newest counts k && spaced_test (contents t) fs k)
    unfolding held_test spaced_test
    used_told k h e =
        let g : k < most_rows = omega arith in
        let u = table.in_use_lem t long few k h e in
        rw (table.used (contents t) k u, instant_at_lem (rows_of t) last k u.there, table.row_at_lem t long few k h, e, limit_at ofa ofb t.rows k (rw long g), n.newest k g, n.counts k g) (by_parts _ _ _ (taken_in k fs))

    row_told : (k : ℕ) → k < t.count → held_if (contents t) (limits_by ofa ofb t.rows) (instants_of (rows_of t) last) fs k ≡ (counts_test t ofa ofb last newest counts k && spaced_test (contents t) fs k)
    row_told k h = go (is_there (get_or t.rows k no_row)) refl
      where
        go : (b : Bool) → is_there (get_or t.rows k no_row) ≡ b → held_if (contents t) (limits_by ofa ofb t.rows) (instants_of (rows_of t) last) fs k ≡ (counts_test t ofa ofb last newest counts k && spaced_test (contents t) fs k)
        go true e = used_told k h e
        go false e =
            let none : is_there (row_at (contents t) k) ≡ false = rw (table.row_at_lem t long few k h) e in
            rw (table.empty (contents t) k none, e, empty_spaced (contents t) fs k none) refl

    pub rows_told : up_to t.count (held_if (contents t) (limits_by ofa ofb t.rows) (instants_of (rows_of t) last) fs) ≡ (up_to t.count (counts_test t ofa ofb last newest counts) && up_to t.count (spaced_test (contents t) fs))
    rows_told = up_to_same t.count _ _ row_told ∙ up_to_both t.count (counts_test t ofa ofb last newest counts) (spaced_test (contents t) fs)

  pub all_apart : Apart t fs → up_to t.count (spaced_test (contents t) fs) ≡ true
  unfolding spaced_test
  all_apart apart = every t.count (spaced_test (contents t) fs) (λ k h. rw (table.row_at_lem t long few k h) (apart k (omega arith)))
