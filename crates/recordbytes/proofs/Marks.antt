-- The numbers of a table with their last instants: what is stored of them, tested and read back.
use Prim.Native.Nat.{ℕ, zero, suc, ◌+◌, ◌*◌, ◌≤◌, ◌<◌}
use mathlib.Core.Bool.{Bool, true, false, cond}
use mathlib.Core.List.{List, [], ◌∷◌}
use mathlib.Core.Path.{◌≡◌, refl, sym, ◌∙◌, ap}
use native.Mathlib.Nat.{le_of_suc-le-suc}
use native.Mathlib.Omega.{arith}
use lib.ListN.{length, get_or, set}
use Rattle.table.specs.declared.Row.{Row}
use Rattle.table.specs.Rows.{no_row, is_there}
use Rattle.table.proofs.Laws.{and-true}
use Rattle.machine.specs.State.{Instant, never, at, instants_for, State, Placed}
use Rattle.machine.proofs.Instants.{for_length}
use Rattle.words.specs.Words.{Every, Word, gathered}
use Rattle.words.proofs.Laws.{Held, HeldEach}
use Rattle.rowbytes.specs.Row.{row_width, row_at}
use Rattle.rowbytes.proofs.Laws.{both}
use Rattle.recordbytes.specs.Layout.{rows_start, last_start, last_width}
use Rattle.recordbytes.specs.Record.{last_words, marked, marked_words, instant_at, last_fits, mark_fits, each}
use Rattle.recordbytes.specs.Fits.{InstantFits}
use Rattle.recordbytes.proofs.Fields as field

-- ---- a number with its instant, for each number
pub last_length : (p : State) → Placed p → length p.last ≡ length p.table.rows
last_length p h = ap (λ (ls : List Instant). length ls) (sym h.last) ∙ for_length p.table.rows p.last

pub marked_length : (rs : List Row) (ls : List Instant) → length (marked rs ls) ≡ length rs
unfolding marked
marked_length [] ls = refl
marked_length (r ∷ rs) [] = ap suc (marked_length rs [])
marked_length (r ∷ rs) (l ∷ ls) = ap suc (marked_length rs ls)

pub marked_at : (rs : List Row) (ls : List Instant) (k : ℕ) → k < length rs → get_or (marked rs ls) k (no_row, never) ≡ (get_or rs k no_row, get_or ls k never)
unfolding marked
marked_at [] ls k h = absurd (omega arith)
marked_at (r ∷ rs) [] zero h = refl
marked_at (r ∷ rs) [] (suc k) h = marked_at rs [] k (le_of_suc-le-suc h)
marked_at (r ∷ rs) (l ∷ ls) zero h = refl
marked_at (r ∷ rs) (l ∷ ls) (suc k) h = marked_at rs ls k (le_of_suc-le-suc h)

pub marked_set : (rs : List Row) (ls : List Instant) (k : ℕ) (x : Instant) → k < length ls → marked rs (set ls k x) ≡ set (marked rs ls) k (get_or rs k no_row, x)
unfolding marked
marked_set [] ls k x h = refl
marked_set (r ∷ rs) [] k x h = absurd (omega arith)
marked_set (r ∷ rs) (l ∷ ls) zero x h = refl
marked_set (r ∷ rs) (l ∷ ls) (suc k) x h = ap (λ (ms : List (Row × Instant)). (r, l) ∷ ms) (marked_set rs ls k x (le_of_suc-le-suc h))

abbrev pub MarkFits : Row × Instant → Type 0
MarkFits m = InstantFits m.1

pub marked_fits : (rs : List Row) (ls : List Instant) → Every InstantFits ls → Every MarkFits (marked rs ls)
unfolding marked
marked_fits [] ls f = tt
marked_fits (r ∷ rs) [] f = (tt, marked_fits rs [] f)
marked_fits (r ∷ rs) (l ∷ ls) f = (f.0, marked_fits rs ls f.1)

pub for_fits : (rs : List Row) (ls : List Instant) → Every InstantFits ls → Every InstantFits (instants_for rs ls)
unfolding instants_for
for_fits [] ls f = tt
for_fits (r ∷ rs) [] f = (tt, for_fits rs [] f)
for_fits (r ∷ rs) (l ∷ ls) f = (go (is_there r), for_fits rs ls f.1)
  where
    go : (b : Bool) → InstantFits (cond b l never)
    go true = f.0
    go false = tt

-- ---- its words
last_wide : (i : Instant) → length (last_words i) ≤ last_width
last_wide never = omega arith
last_wide (at k) = omega arith

pub mark_wide : (m : Row × Instant) → length (marked_words m) ≤ last_width
mark_wide m = go (is_there m.0)
  where
    go : (b : Bool) → length (cond b (last_words m.1) []) ≤ last_width
    go true = last_wide m.1
    go false = omega arith

module _ (s : List ℕ) where
  pub mark_words : (m : Row × Instant) → MarkFits m → Every Word (marked_words m)
  mark_words m f = go (is_there m.0)
    where
      go : (b : Bool) → Every Word (cond b (last_words m.1) [])
      go true = field.last_words_lem s m.1 f
      go false = tt

  -- what stands is read back, an empty number's place whatever it holds
  pub marks_back : (rs : List Row) (ls : List Instant) (k : ℕ) → length ls ≡ length rs → Every InstantFits ls → HeldEach marked_words last_width s k (marked rs ls) → instants_for rs (gathered (instant_at s) last_width k (length rs)) ≡ instants_for rs ls
  unfolding marked instants_for gathered
  marks_back [] ls k n f h = refl
  marks_back (r ∷ rs) [] k n f h = absurd (omega arith)
  marks_back (r ∷ rs) (l ∷ ls) k n f h = rw (go (is_there r) h.0, marks_back rs ls (k + last_width) (omega arith) f.1 h.1) refl
    where
      go : (b : Bool) → Held s k (cond b (last_words l) []) → cond b (instant_at s k) never ≡ cond b l never
      go true e = field.last_back s l k f.0 e
      go false e = refl

  -- a number's row and its mark
  abbrev row : ℕ → Row
  row i = row_at s (rows_start + row_width * i)

  mark_fits_lem : (i : ℕ) (l : Instant) → InstantFits l → Held s (last_start + last_width * i) (marked_words (row i, l)) → mark_fits s i ≡ true
  mark_fits_lem i l f h = go (is_there (row i)) h
    where
      go : (b : Bool) → Held s (last_start + last_width * i) (cond b (last_words l) []) → cond b (last_fits s (last_start + last_width * i)) true ≡ true
      go true e = field.last_fits_lem s l (last_start + last_width * i) f e
      go false e = refl

  mark_same : (i : ℕ) → mark_fits s i ≡ true → Held s (last_start + last_width * i) (marked_words (row i, cond (is_there (row i)) (instant_at s (last_start + last_width * i)) never))
  mark_same i e = go (is_there (row i)) e
    where
      go : (b : Bool) → cond b (last_fits s (last_start + last_width * i)) true ≡ true → Held s (last_start + last_width * i) (cond b (last_words (cond b (instant_at s (last_start + last_width * i)) never)) [])
      go true e = field.last_same s (last_start + last_width * i) e
      go false e = tt

  -- n numbers from number i on
  abbrev rows : ℕ → ℕ → List Row
  rows i n = gathered (row_at s) row_width (rows_start + row_width * i) n

  next_row : (i : ℕ) → rows_start + row_width * i + row_width ≡ rows_start + row_width * (i + 1)
  next_row i = omega arith

  next_last : (i : ℕ) → last_start + last_width * i + last_width ≡ last_start + last_width * (i + 1)
  next_last i = omega arith

  pub marks_fit : (i n : ℕ) (ls : List Instant) → length ls ≡ n → Every InstantFits ls → HeldEach marked_words last_width s (last_start + last_width * i) (marked (rows i n) ls) → each (mark_fits s) 1 i n ≡ true
  unfolding marked gathered each
  marks_fit i zero ls m f h = refl
  marks_fit i (suc n) [] m f h = absurd (omega arith)
  marks_fit i (suc n) (l ∷ ls) m f h = both (mark_fits_lem i l f.0 h.0) (marks_fit (i + 1) n ls (omega arith) f.1 (rw (next_row i, next_last i) at h.1))

  pub marks_held : (i n : ℕ) → each (mark_fits s) 1 i n ≡ true → HeldEach marked_words last_width s (last_start + last_width * i) (marked (rows i n) (instants_for (rows i n) (gathered (instant_at s) last_width (last_start + last_width * i) n)))
  unfolding marked instants_for gathered each
  marks_held i zero e = tt
  marks_held i (suc n) e = let p = and-true (mark_fits s i) (each (mark_fits s) 1 (i + 1) n) e in (mark_same i p.0, rw (next_row i, next_last i) (marks_held (i + 1) n p.1))
