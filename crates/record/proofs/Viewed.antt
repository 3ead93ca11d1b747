-- A record's view: best-effort frames that have their places, whether its table is accepted, and of an accepted table the limits of its rows, its row count and its bounds.
use Prim.Native.Nat.{ℕ, ◌-◌, ◌≤◌, ◌<◌}
use mathlib.Core.Bool.{Bool, true, false, false≢true}
use mathlib.Core.List.{List, ◌++◌}
use mathlib.Core.Path.{◌≡◌, refl, sym, ◌∙◌}
use native.Mathlib.Nat.{lt_of_not-le, le_of_suc-le-suc}
use native.Mathlib.Omega.{arith}
use lib.ListN.{length, get_or, take}
use borrow.Author.Tests.{le-leb}
use Rattle.std.specs.Prelude.{Err}
use Rattle.table.specs.declared.Class.TheVariants.{A, B}
use Rattle.table.specs.declared.Refusal.{Refusal}
use Rattle.table.specs.declared.Table.{Table}
use Rattle.table.specs.Limits.{most_rows}
use Rattle.table.specs.Rows.{no_row, is_there, contents, count_right}
use Rattle.table.specs.Checks.{accepted, outcome_of}
use Rattle.table.proofs.Laws as table
use Rattle.figures.specs.declared.Lane.{Lane}
use Rattle.planner.specs.Sums.{best_size}
use Rattle.planner.specs.Bound.{bounds_of}
use Rattle.planner.specs.Opening.{standing}
use Rattle.planner.specs.Plan.{lane_of}
use Rattle.planner.proofs.Laws as law
use Rattle.machine.specs.declared.Port.{Port}
use Rattle.machine.specs.Limits.{best_places}
use Rattle.machine.specs.State.{waiting, view}
use Rattle.machine.specs.Record.{all_of, same_numbers, table_sound, count_sound, bounds_sound, best_sound}
use Rattle.machine.proofs.Places.{Places, waiting_length, too_many, kept_few, worked_out}
use Rattle.frames.specs.Tests.{limits_by, best_test}
use Rattle.frames.proofs.Laws.{limit_at, by_place, no_best}
use Rattle.record.specs.Steps.{others_test, Bounded}
use Rattle.record.proofs.Walk as walk
use Rattle.record.proofs.Parts.{Right}

-- an accepted table has a row, and no more rows than places
pub few : (t : Table) → standing (contents t) ≡ accepted → t.count ≤ most_rows
few t e = rw (table.rows_length t) at (law.standing_if (contents t) e).ranges.most

pub some : (t : Table) → standing (contents t) ≡ accepted → 1 ≤ t.count
some t e = rw (table.rows_length t) at (law.standing_if (contents t) e).ranges.some

-- the bounds that are worked out stand in the first places
pub bounds_made : (p : Port) (out rest : List ℕ) → out ≡ bounds_of (contents p.table) ++ rest → Bounded p out
unfolding view
bounds_made p out rest e = let w = worked_out p.table out rest e in record { long = w.0; last = rw w.1 (walk.by_bounds (contents p.table) p.last) }

-- by its classes, its rows have their residences as limits
limits_right : (t : Table) → length t.rows ≡ most_rows → standing (contents t) ≡ accepted → Right (contents t) (limits_by (lane_of A (contents t)) (lane_of B (contents t)) t.rows)
limits_right t long o k u =
    let h : k < t.count = rw (table.rows_length t) at u.below in
    let here : k < most_rows = omega (arith, few t o) in
    limit_at (lane_of A (contents t)) (lane_of B (contents t)) t.rows k (rw long here) ∙ rw (← table.row_at_lem t long (few t o) k h) (law.residence_by_lem (contents t) (law.standing_if (contents t) o) k u)

below : (n m : ℕ) → (m < n → ⊥) → n ≤ m
below n m h = le_of_suc-le-suc (lt_of_not-le h)

module _ (p : Port) where
  -- best-effort frames that all pass have their places
  passed : (limits : List ℕ) → others_test limits (view p) ≡ true → all_of (best_test (best_size (contents p.table)) p.clock) (waiting p.best.count p.best.frames) ≡ true
  unfolding view others_test
  passed limits e = (table.and-true _ _ e).0

  few_best : (limits : List ℕ) → Places p → others_test limits (view p) ≡ true → p.best.count ≤ best_places
  few_best limits places e =
      below p.best.count best_places (λ h. false≢true (too_many (best_test (best_size (contents p.table)) p.clock) p.best.count p.best.frames (no_best _ _) (rw places.best h) ∙ passed limits e))

  pub best_placed : (limits : List ℕ) → Places p → others_test limits (view p) ≡ true → best_sound (view p) ≡ true
  unfolding view best_sound
  best_placed limits places e = rw (waiting_length p.best.count p.best.frames) (le-leb p.best.count best_places (few_best limits places e))

  pub right : length p.table.rows ≡ most_rows → standing (contents p.table) ≡ accepted → {a b : Lane} → a ≡ lane_of A (contents p.table) → b ≡ lane_of B (contents p.table) → Right (view p).table (limits_by a b p.table.rows)
  unfolding view
  right long o e f = rw (e, f) (limits_right p.table long o)

  pub accepted_table : standing (contents p.table) ≡ accepted → table_sound (view p) ≡ true
  unfolding view table_sound
  accepted_table e = rw e refl

  -- its row count, by the last row, and its bounds, by those that are worked out
  module _ (places : Places p) (o : standing (contents p.table) ≡ accepted) where
    pub by_highest : {r : Bool} → r ≡ is_there (get_or p.table.rows (p.table.count - 1) no_row) → r ≡ count_sound (view p)
    unfolding view count_sound count_right
    by_highest e =
        let n = some p.table o in
        rw (table.rows_length p.table) (sym (by_place p.table (p.table.count - 1) places.rows (omega arith) (omega (arith, few p.table o)) e))

    pub by_bounds : (out rest : List ℕ) → out ≡ bounds_of (contents p.table) ++ rest → {r : Bool} → r ≡ same_numbers (take p.table.count p.bounds) (take p.table.count out) → r ≡ bounds_sound (view p)
    unfolding view bounds_sound
    by_bounds out rest e q = rw (kept_few p.table.count p.bounds (rw places.bounds (few p.table o)), ← (worked_out p.table out rest e).1) q

  pub refused_table : (r : Refusal) → standing (contents p.table) ≡ outcome_of (Err r) → table_sound (view p) ≡ false
  unfolding view table_sound
  refused_table r e = rw e refl
