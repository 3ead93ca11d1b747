-- The row that a frame names: its place and its limit are those at its number.
use Prim.Native.Nat.{ℕ, zero, suc, ◌-◌, ◌≤◌, ◌<◌}
use mathlib.Core.Bool.{Bool, true, false, ◌&&◌}
use mathlib.Core.List.{List, [], ◌∷◌, ◌++◌}
use mathlib.Core.Path.{◌≡◌, refl, sym}
use native.Mathlib.Nat.{le_of_suc-le-suc}
use native.Mathlib.Omega.{arith}
use lib.ListN.{length, get_or, take, replicate, length-take}
use lib.Dec.{leb, ltb}
use borrow.Author.Tests.{lt-ltb}
use Rattle.table.specs.declared.Class.{Class}
use Rattle.table.specs.declared.Row.{Row}
use Rattle.table.specs.declared.Table.{Table}
use Rattle.table.specs.Limits.{most_rows}
use Rattle.table.specs.Wire.{size_of}
use Rattle.table.specs.Rows.{no_row, is_there, Contents, rows_of, contents, row_at, in_use}
use Rattle.table.proofs.Laws as table
use Rattle.figures.specs.declared.Lane.{Lane}
use Rattle.planner.specs.Sums.{in_class}
use Rattle.figures.specs.Lanes.{residence_by}
use Rattle.machine.specs.declared.Frame.{Frame}
use Rattle.machine.specs.Limits.{no_mark}
use Rattle.machine.specs.State.{no_frame}
use Rattle.frames.specs.Tests.{limits_by, row_test, frame_test, best_test}

no_size : (x y c g : Bool) → (x && ((y && (false && c)) && g)) ≡ false
no_size true true c g = refl
no_size true false c g = refl
no_size false y c g = refl

-- the limit of a row stands at its place
pub limit_at : (a b : Lane) (rows : List Row) (k : ℕ) → k < length rows → get_or (limits_by a b rows) k 0 ≡ residence_by a b (get_or rows k no_row)
limit_at a b [] k h = absurd (omega arith)
limit_at a b (r ∷ rows) zero h = refl
limit_at a b (r ∷ rows) (suc k) h = limit_at a b rows k (le_of_suc-le-suc h)

-- behind the places stand rows of zeros
no_more : (m k : ℕ) → get_or (replicate m no_row) k no_row ≡ no_row
no_more zero k = refl
no_more (suc m) zero = refl
no_more (suc m) (suc k) = no_more m k

behind : (rows : List Row) (m k : ℕ) → length rows ≤ k → get_or (rows ++ replicate m no_row) k no_row ≡ no_row
behind [] m k h = no_more m k
behind (r ∷ rows) m zero h = absurd (omega arith)
behind (r ∷ rows) m (suc k) h = behind rows m k (le_of_suc-le-suc h)

-- a number in use, by a table record's count and places
module _ (t : Table) (k : ℕ) where
  pub no_row_lem : t.count ≤ k → in_use (contents t) k ≡ false
  no_row_lem h = table.unused (contents t) k (rw (table.rows_length t) h)

  module _ (long : length t.rows ≡ most_rows) where
    pub no_place : most_rows ≤ k → in_use (contents t) k ≡ false
    unfolding rows_of
    no_place h =
        let none : row_at (contents t) k ≡ no_row = behind (take t.count t.rows) (t.count - length t.rows) k (rw length-take (omega (arith, long))) in
        table.empty (contents t) k (rw none table.no_row_there)

    pub by_place : k < t.count → k < most_rows → {b : Bool} → b ≡ is_there (get_or t.rows k no_row) → in_use (contents t) k ≡ b
    unfolding in_use
    by_place h g e = rw (lt-ltb k (length (rows_of t)) (rw (table.rows_length t) h), table.row_in_place t long k h g) (sym e)

module _ (k : Class) (t : Table) (a b : Lane) (now : ℕ) (f : Frame) where
  pub not_used : in_use (contents t) f.source ≡ false → false ≡ frame_test k (contents t) (limits_by a b t.rows) now f
  unfolding frame_test
  not_used e = rw e refl

  pub row_here : length t.rows ≡ most_rows → f.source < t.count → f.source < most_rows → in_use (contents t) f.source ≡ true → {r : Bool} {limit : ℕ} → limit ≡ residence_by a b (get_or t.rows f.source no_row) → r ≡ row_test k f (get_or t.rows f.source no_row) limit now → r ≡ frame_test k (contents t) (limits_by a b t.rows) now f
  unfolding frame_test
  row_here long h g u e q = rw (u, table.row_in_place t long f.source h g, limit_at a b t.rows f.source (rw long g), ← e) q

-- a frame that has no place passes no test
pub no_frame_lem : (k : Class) (t : Contents) (limits : List ℕ) (now : ℕ) → frame_test k t limits now no_frame ≡ false
unfolding frame_test row_test
no_frame_lem k t limits now = no_size (in_use t no_mark) (in_class k (row_at t no_mark)) (leb 0 (size_of (row_at t no_mark))) (leb 0 now && ltb (now - 0) (get_or limits no_mark 0))

pub no_best : (most now : ℕ) → best_test most now no_frame ≡ false
unfolding best_test
no_best most now = refl
