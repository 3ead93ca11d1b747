-- An accepted table's sheet, row by row.
use Prim.Native.Nat.{ℕ, suc, ◌+◌, ◌*◌, ◌≤◌, ◌<◌}
use mathlib.Core.Bool.{true}
use mathlib.Core.List.{List, ◌++◌, append_assoc, append-nil}
use mathlib.Core.Path.{◌≡◌, refl, sym, ◌∙◌, ap}
use native.Mathlib.Numerals.{add-one}
use native.Mathlib.Omega.{arith}
use lib.ListN.{length, take, drop, get_or}
use lib.Seq.{length-take-le}
use Rattle.table.specs.declared.Table.{Table}
use Rattle.table.specs.Limits.{most_rows}
use Rattle.table.specs.Rows.{no_row, is_there, rows_of, contents}
use Rattle.table.specs.Checks.{accepted}
use Rattle.table.proofs.Laws.{every_at, rows_length, next_row, no_row_lem, row_at_lem, in_use_lem}
use Rattle.planner.specs.Bound.{bound}
use Rattle.planner.specs.Opening.{opening}
use Rattle.planner.specs.Plan.{BoundsOf}
use Rattle.planner.proofs.Laws.{accepted_if, opened_full, bounds_row}
use Rattle.texts.specs.Text.{Put}
use Rattle.sheets.specs.Sheet.{heading, row_line, row_lines, text_by, most_text}

-- The first i rows stand, in at most 107 bytes each; the lines of those that are left make the text whole.
pub record Listing (t : Table) (i at : ℕ) (out : List ℕ) : Type 0 where
  pub text : take at out ++ row_lines (contents t) i (drop i (rows_of t)) ≡ text_by accepted (contents t)
  pub few : at ≤ 37 + 107 * i
  pub inside : at ≤ length out

module _ (t : Table) (long : length t.rows ≡ 32) (ok : opening (contents t) ≡ accepted) where
  pub rows_few : t.count ≤ most_rows
  rows_few = rw (rows_length t) at (accepted_if (contents t) ok).ranges.most

  pub none_yet : {before out : List ℕ} {at : ℕ} → Put 37 heading before 0 out at → 37 ≤ length out → Listing t 0 at out
  none_yet p h = record { text = rw p.bytes refl; few = p.few; inside = omega (arith, p.few) }

  pub all_stand : {i at : ℕ} {before out : List ℕ} → Listing t i at out → t.count ≤ i → i ≤ most_rows → Put most_text (text_by accepted (contents t)) before 0 out at
  unfolding row_lines
  all_stand {i} {at} {out = out} l h g =
      let bytes : take at out ≡ text_by accepted (contents t) = sym (append-nil (take at out)) ∙ rw (no_row_lem t long rows_few i h) at l.text in
      record { few = omega (arith, l.few); bytes = bytes; long = omega (arith, length-take-le at out l.inside, ap length bytes) }

  module _ {bounds : List ℕ} (shown : BoundsOf (contents t) bounds) {i : ℕ} (h : i < t.count) where
    abbrev line : List ℕ
    line = row_line i (get_or t.rows i no_row) (get_or bounds i 0)

    -- no number of a table that is opened is empty
    there : is_there (get_or t.rows i no_row) ≡ true
    there = rw (row_at_lem t long rows_few i h) at (every_at (λ r. is_there r ≡ true) (rows_of t) (opened_full (contents t) ok) i (rw (rows_length t) h))

    -- the bound of the row at a place is the one that stands there
    limit : get_or bounds i 0 ≡ bound (contents t) (get_or t.rows i no_row)
    limit = rw shown.bounds (bounds_row (contents t) i (in_use_lem t long rows_few i h there) ∙ ap (bound (contents t)) (row_at_lem t long rows_few i h))

    next_line : row_lines (contents t) i (drop i (rows_of t)) ≡ line ++ row_lines (contents t) (suc i) (drop (suc i) (rows_of t))
    unfolding row_lines
    next_line = rw (next_row t long rows_few i h, limit) refl

    pub one_more : {at next : ℕ} {out after : List ℕ} → Listing t i at out → at + 107 ≤ length after → Put 107 line out at after next → Listing t (i + 1) next after
    one_more {at} {out = out} l room p =
        record {
          text = rw (add-one, p.bytes, append_assoc, ← next_line) l.text;
          few = omega (arith, p.few, l.few);
          inside = omega (arith, p.few);
        }
