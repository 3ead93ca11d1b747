-- What the checks of a join and of a leave say of a port, and what they give.
use Rattle.std.specs.Prelude.{Some, None, Ok}
use Prim.Native.Nat.{ℕ, ◌≤◌, ◌<◌}
use mathlib.Core.Bool.{Bool, true, false, ◌&&◌}
use mathlib.Core.List.{List, map, ◌++◌}
use mathlib.Core.Path.{◌≡◌, refl, sym, ◌∙◌, ap}
use borrow.Author.Tests.{lt-ltb, le-ltb}
use lib.Dec.{ltb}
use lib.ListN.{length, set, length-map}
use Rattle.std.specs.declared.option.Option.TheVariants.{None}
use Rattle.table.specs.declared.Row.{Row}
use Rattle.table.specs.declared.Table.{Table}
use Rattle.table.specs.Limits.{most_rows}
use Rattle.table.specs.Rows.{Contents, rows_of, contents, in_use, rows_with, rows_without, with_row, without_row}
use Rattle.table.specs.Checks.{accepted, refused}
use Rattle.table.specs.Ranges.{row_ok}
use Rattle.table.proofs.Laws as table
use Rattle.planner.specs.Bound.{bounds_of}
use Rattle.planner.specs.Opening.{slopes_ok, standing}
use Rattle.planner.proofs.Laws as law
use Rattle.planner.proofs.Growth as growth
use Rattle.machine.specs.declared.Denial.{Denial}
use Rattle.machine.specs.declared.Port.{Port}
use Rattle.machine.specs.State.{never, instant_of, instants_for, kept_of, State, view}
use Rattle.machine.specs.Record.{sound}
use Rattle.machine.specs.Calls.{is_open, join_check, quiet, leave_check, join_row, leave_row, number_of, place_of, join, leave}
use Rattle.machine.specs.Effects.{cleared_at, patched_by, Denied, Patches}
use Rattle.machine.proofs.FromSound.{clauses, is_accepted_lem}
use Rattle.machine.proofs.Places.{Places, kept_few, worked_out}
use Rattle.patches.proofs.Lists.{map_set, joined_instants, left_instants}

none : (b : Bool) → (b && false) ≡ false
none true = refl
none false = refl

-- ---- the checks of a join in their order
module _ (s : State) (k : ℕ) (r : Row) where
  pub join_broken : sound s ≡ false → join_check s k r ≡ refused 18 0
  unfolding join_check
  join_broken e = rw e refl

  module _ (ok : sound s ≡ true) where
    pub join_above : most_rows ≤ k → join_check s k r ≡ refused 22 0
    unfolding join_check is_open
    join_above h = rw (ok, le-ltb k most_rows h) refl

    pub join_used : in_use s.table k ≡ true → join_check s k r ≡ refused 22 0
    unfolding join_check is_open
    join_used e = rw (ok, e, none (ltb k most_rows)) refl

    module _ (few : k < most_rows) (unused : in_use s.table k ≡ false) where
      is_open_lem : is_open s.table k ≡ true
      unfolding is_open
      is_open_lem = rw (lt-ltb k most_rows few, unused) refl

      pub join_row_lem : row_ok r ≡ false → join_check s k r ≡ refused 5 k
      unfolding join_check
      join_row_lem e = rw (ok, is_open_lem, e) refl

      -- the table with the row decides
      pub join_by_lem : row_ok r ≡ true → join_check s k r ≡ standing (with_row k r s.table)
      unfolding join_check
      join_by_lem e = rw (ok, is_open_lem, e) (sym (growth.join_standing s.table k r (is_accepted_lem s (clauses s ok)) few (table.in_range r e)))

-- ---- the checks of a leave in their order
module _ (s : State) (k : ℕ) where
  pub leave_broken : sound s ≡ false → leave_check s k ≡ refused 18 0
  unfolding leave_check
  leave_broken e = rw e refl

  module _ (ok : sound s ≡ true) where
    pub leave_unused : in_use s.table k ≡ false → leave_check s k ≡ refused 11 0
    unfolding leave_check
    leave_unused e = rw (ok, e) refl

    module _ (used : in_use s.table k ≡ true) where
      pub leave_busy : quiet s ≡ false → leave_check s k ≡ refused 21 0
      unfolding leave_check
      leave_busy e = rw (ok, used, e) refl

      -- the table without the row stands exactly if its slopes are right
      slopes : (b : Bool) → slopes_ok (without_row k s.table) ≡ b → (standing (without_row k s.table) ≡ accepted → b ≡ true)
      slopes b e h = sym e ∙ law.standing_slopes (without_row k s.table) h

      stands : slopes_ok (without_row k s.table) ≡ true → standing (without_row k s.table) ≡ accepted
      stands e = law.standing_only_if (without_row k s.table) (growth.leave_accepted s.table k (is_accepted_lem s (clauses s ok)) (table.is_used s.table k used) e)

      module _ (still : quiet s ≡ true) where
        pub leave_passes : standing (without_row k s.table) ≡ accepted → leave_check s k ≡ accepted
        unfolding leave_check
        leave_passes h = rw (ok, used, still, law.standing_slopes (without_row k s.table) h) refl

        pub leave_last : {n p : ℕ} → standing (without_row k s.table) ≡ refused n p → leave_check s k ≡ refused 8 0
        unfolding leave_check
        leave_last h = go (slopes_ok (without_row k s.table)) refl
          where
            go : (b : Bool) → slopes_ok (without_row k s.table) ≡ b → leave_check s k ≡ refused 8 0
            go false e = rw (ok, used, still, e) refl
            go true e = table.never (sym h ∙ stands e)

-- ---- by the record's own parts
module _ (p : Port) where
  pub table_of : (view p).table ≡ contents p.table
  unfolding view
  table_of = refl

  pub few_rows : sound (view p) ≡ true → p.table.count ≤ most_rows
  few_rows ok = rw (ap (λ (t : Contents). length t.rows) table_of ∙ table.rows_length p.table) at (is_accepted_lem (view p) (clauses (view p) ok)).ranges.most

  -- a call that a check refuses is denied
  pub join_refused : (k : ℕ) (r : Row) (d : Denial) → join_check (view p) k r ≡ refused (number_of d) (place_of d) → Denied p (join k r) d
  join_refused k r d h = record { answer = rw h refl; port = rw h refl }

  pub leave_refused : (k : ℕ) (d : Denial) → leave_check (view p) k ≡ refused (number_of d) (place_of d) → Denied p (leave k) d
  leave_refused k d h = record { answer = rw h refl; port = rw h refl }

  -- the bounds that are kept
  bounds_are : (t : Table) (bs rest : List ℕ) → bs ≡ bounds_of (contents t) ++ rest → kept_of t.count bs ≡ bounds_of (contents t)
  bounds_are t bs rest e = let w = worked_out t bs rest e in kept_few t.count bs w.0 ∙ w.1

  module _ (places : Places p) where
    joined_last : (k : ℕ) (r : Row) (t : Table) → k < most_rows → contents t ≡ with_row k r (contents p.table) → instants_for (rows_of t) (map instant_of (cleared_at (Some k) p.last)) ≡ instants_for (rows_of t) (set (instants_for (rows_of p.table) (map instant_of p.last)) k never)
    unfolding with_row
    joined_last k r t few e =
        let rows : rows_of t ≡ rows_with k r (rows_of p.table) = ap (λ (c : Contents). c.rows) e in
        rw (rows, lt-ltb k most_rows few, map_set p.last k None) (joined_instants k r (rows_of p.table) (map instant_of p.last) (rw (length-map p.last instant_of, places.last) few))

    pub join_taken : (k : ℕ) (r : Row) (t : Table) (bs rest : List ℕ) → k < most_rows → join_check (view p) k r ≡ accepted → contents t ≡ with_row k r (contents p.table) → bs ≡ bounds_of (contents t) ++ rest → Patches p (join k r) (Ok (record { table = t; bounds = bs; cleared = Some k }))
    unfolding join_row view
    join_taken k r t bs rest few check e eb =
        let kept = bounds_are t bs rest eb in
        let last = joined_last k r t few e in
        let port : view (patched_by (record { table = t; bounds = bs; cleared = Some k }) p) ≡ join_row k r (view p) =
        λ i. record { table = e i; bounds = (kept ∙ ap bounds_of e) i; clock = p.clock; credita = p.credita; creditb = p.creditb; a = (view p).a; b = (view p).b; best = (view p).best; last = (last ∙ ap (λ (c : Contents). instants_for c.rows (set (instants_for (rows_of p.table) (map instant_of p.last)) k never)) e) i; wire = p.wire } in
        record { answer = rw check refl; port = rw check port; table = tt; kept = tt }

    left_last : (k : ℕ) (t : Table) → contents t ≡ without_row k (contents p.table) → instants_for (rows_of t) (map instant_of p.last) ≡ instants_for (rows_of t) (instants_for (rows_of p.table) (map instant_of p.last))
    unfolding without_row
    left_last k t e =
        let rows : rows_of t ≡ rows_without k (rows_of p.table) = ap (λ (c : Contents). c.rows) e in
        rw rows (left_instants (rows_without k (rows_of p.table)) (rows_of p.table) (map instant_of p.last) (table.without_length k (rows_of p.table)) (λ j h. (table.without_before (contents p.table) k j (table.there_used (without_row k (contents p.table)) j h)).1.there))

    pub leave_taken : (k : ℕ) (t : Table) (bs rest : List ℕ) → leave_check (view p) k ≡ accepted → contents t ≡ without_row k (contents p.table) → bs ≡ bounds_of (contents t) ++ rest → Patches p (leave k) (Ok (record { table = t; bounds = bs; cleared = None }))
    unfolding leave_row view
    leave_taken k t bs rest check e eb =
        let kept = bounds_are t bs rest eb in
        let last = left_last k t e in
        let port : view (patched_by (record { table = t; bounds = bs; cleared = None }) p) ≡ leave_row k (view p) =
        λ i. record { table = e i; bounds = (kept ∙ ap bounds_of e) i; clock = p.clock; credita = p.credita; creditb = p.creditb; a = (view p).a; b = (view p).b; best = (view p).best; last = (last ∙ ap (λ (c : Contents). instants_for c.rows (instants_for (rows_of p.table) (map instant_of p.last))) e) i; wire = p.wire } in
        record { answer = rw check refl; port = rw check port; table = tt; kept = tt }
