-- A row that joins raises, and one that leaves lowers: the sums of the rows, row by row, and what is worked out from them.
use Prim.Native.Nat.{ℕ, zero, suc, ◌+◌, ◌-◌, ◌*◌, ◌≤◌, ◌<◌, max}
use mathlib.Core.Bool.{Bool, true, false, cond, ◌&&◌}
use mathlib.Core.List.{List, [], ◌∷◌}
use mathlib.Core.Logic.{◌↔◌, ⊎_elim}
use mathlib.Core.Path.{◌≡◌, refl, ◌∙◌, ap}
use native.Mathlib.Nat.{le_trans, mul-le-mul_left, eq-zero-or-pos}
use native.Mathlib.Omega.{arith}
use lib.Dec.{eqb}
use lib.ListN.{length, get_or, set}
use borrow.Author.Tests.{eqb-true, eqb-false}
use Rattle.table.specs.declared.Class.{Class}
use Rattle.table.specs.declared.Class.TheVariants.{A, B}
use Rattle.table.specs.declared.Row.{Row}
use Rattle.table.specs.Limits.{D, most_rows}
use Rattle.table.specs.Checks.{first}
use Rattle.table.specs.Wire.{ceil_div, size_of, period_of, share_of}
use Rattle.table.specs.Rows.{no_row, is_there, Contents, row_at, InUse, rows_with, before, trimmed, rows_without, with_row, without_row}
use Rattle.table.specs.Ranges.{Every, InRange}
use Rattle.table.proofs.Laws as table
use Rattle.planner.specs.Sums.{in_class, counts, part, sum_over, max_over, members, largest, total, shares, idle, send, best_size}
use Rattle.planner.specs.Bound.{blocking, residence_in, residence, bound, most_of, most_in}
use Rattle.planner.specs.Opening.{used_ok, slopes_ok, fair_checks, standing, RangesAround, IsAccepted}
use Rattle.planner.specs.Growth.{NoLess, JoinRaises, JoinAccepted, LeaveLowers, LeaveAccepted}
use Rattle.planner.proofs.Checks.{slope_limits}
use Rattle.planner.proofs.Members.{sum_at}
use Rattle.planner.proofs.Laws.{used_iff, around_only_if, standing_if}

-- ---- sums and the largest
module _ (c : Class) (f : Row → ℕ) where
  pub part_empty : (r : Row) → is_there r ≡ false → part c f r ≡ 0
  part_empty r e = rw e (go (in_class c r))
    where
      go : (b : Bool) → cond (b && false) (f r) 0 ≡ 0
      go true = refl
      go false = refl

  part_none : part c f no_row ≡ 0
  part_none = part_empty no_row table.no_row_there

  pub sum_with : (k : ℕ) (r : Row) (rs : List Row) → is_there (get_or rs k no_row) ≡ false → sum_over c f (rows_with k r rs) ≡ sum_over c f rs + part c f r
  unfolding rows_with sum_over
  sum_with zero r [] e = omega arith
  sum_with zero r (x ∷ rs) e = omega (arith, part_empty x e)
  sum_with (suc k) r [] e = omega (arith, sum_with k r [] e, part_none)
  sum_with (suc k) r (x ∷ rs) e = omega (arith, sum_with k r rs e)

  pub max_with : (k : ℕ) (r : Row) (rs : List Row) → is_there (get_or rs k no_row) ≡ false → max_over c f (rows_with k r rs) ≡ max (max_over c f rs) (part c f r)
  unfolding rows_with max_over
  max_with zero r [] e = omega arith
  max_with zero r (x ∷ rs) e = omega (arith, part_empty x e)
  max_with (suc k) r [] e = omega (arith, max_with k r [] e, part_none)
  max_with (suc k) r (x ∷ rs) e = omega (arith, max_with k r rs e)

  sum_trimmed : (rs : List Row) → sum_over c f (trimmed rs) ≡ sum_over c f rs
  unfolding trimmed sum_over
  sum_trimmed [] = refl
  sum_trimmed (r ∷ rs) = go (trimmed rs) (sum_trimmed rs)
    where
      alone : (b : Bool) → is_there r ≡ b → 0 ≡ sum_over c f rs → sum_over c f (cond b (r ∷ []) []) ≡ part c f r + sum_over c f rs
      alone true e h = omega arith
      alone false e h = omega (arith, part_empty r e)

      go : (xs : List Row) → sum_over c f xs ≡ sum_over c f rs → sum_over c f (before r xs) ≡ part c f r + sum_over c f rs
      go [] h = alone (is_there r) refl h
      go (x ∷ xs) h = omega arith

  max_trimmed : (rs : List Row) → max_over c f (trimmed rs) ≡ max_over c f rs
  unfolding trimmed max_over
  max_trimmed [] = refl
  max_trimmed (r ∷ rs) = go (trimmed rs) (max_trimmed rs)
    where
      alone : (b : Bool) → is_there r ≡ b → 0 ≡ max_over c f rs → max_over c f (cond b (r ∷ []) []) ≡ max (part c f r) (max_over c f rs)
      alone true e h = omega arith
      alone false e h = omega (arith, part_empty r e)

      go : (xs : List Row) → max_over c f xs ≡ max_over c f rs → max_over c f (before r xs) ≡ max (part c f r) (max_over c f rs)
      go [] h = alone (is_there r) refl h
      go (x ∷ xs) h = omega arith

  sum_cleared : (rs : List Row) (k : ℕ) → sum_over c f (set rs k no_row) + part c f (get_or rs k no_row) ≡ sum_over c f rs
  unfolding sum_over
  sum_cleared [] k = omega (arith, part_none)
  sum_cleared (r ∷ rs) zero = omega (arith, part_none)
  sum_cleared (r ∷ rs) (suc k) = omega (arith, sum_cleared rs k)

  max_cleared : (rs : List Row) (k : ℕ) → max_over c f (set rs k no_row) ≤ max_over c f rs
  unfolding max_over
  max_cleared [] k = omega arith
  max_cleared (r ∷ rs) zero = omega (arith, part_none)
  max_cleared (r ∷ rs) (suc k) = omega (arith, max_cleared rs k)

  pub sum_without : (k : ℕ) (rs : List Row) → sum_over c f (rows_without k rs) + part c f (get_or rs k no_row) ≡ sum_over c f rs
  unfolding rows_without
  sum_without k rs = omega (arith, sum_trimmed (set rs k no_row), sum_cleared rs k)

  max_without : (k : ℕ) (rs : List Row) → max_over c f (rows_without k rs) ≤ max_over c f rs
  unfolding rows_without
  max_without k rs = omega (arith, max_trimmed (set rs k no_row), max_cleared rs k)

-- a sum of no larger figures is no larger
sum_grows : (c : Class) (f g : Row → ℕ) → ((r : Row) → f r ≤ g r) → (rs : List Row) → sum_over c f rs ≤ sum_over c g rs
unfolding sum_over
sum_grows c f g h [] = omega arith
sum_grows c f g h (r ∷ rs) = omega (arith, one (counts c r), sum_grows c f g h rs)
  where
    one : (b : Bool) → cond b (f r) 0 ≤ cond b (g r) 0
    one true = h r
    one false = omega arith

-- ---- what is worked out from them
module _ (t u : Contents) (same : t.header ≡ u.header) (m : (c : Class) → members c t ≤ members c u) (s : (c : Class) → total c t ≤ total c u) (q : (c : Class) → shares c t ≤ shares c u) (l : (c : Class) → largest c t ≤ largest c u) where
  idle_same : (c : Class) → idle c t ≡ idle c u
  idle_same A = rw same refl
  idle_same B = rw same refl

  best_same : best_size t ≡ best_size u
  unfolding best_size
  best_same = rw same refl

  burst_same : ceil_div (max (D * best_size t) (idle A t * largest B t)) (send A t) ≡ ceil_div (max (D * best_size u) (idle A u * largest B t)) (send A u)
  burst_same = ap (λ (n : ℕ). ceil_div (max (D * n) (idle A t * largest B t)) (send A t)) best_same ∙ ap (λ (i : ℕ). ceil_div (max (D * best_size u) (i * largest B t)) (D - i)) (idle_same A)

  blocks : (c : Class) → blocking c t ≤ blocking c u
  unfolding blocking
  blocks A = rw best_same (omega (arith, l B))
  blocks B =
      let burst : idle A u * largest B t ≤ idle A u * largest B u = mul-le-mul_left (idle A u) (l B) in
      omega (arith, l A, burst_same, table.ceil_grows (max (D * best_size u) (idle A u * largest B t)) (max (D * best_size u) (idle A u * largest B u)) (send A u) (omega (arith, burst)))

  resides : (r : Row) → residence t r ≤ residence u r
  unfolding residence residence_in
  resides r =
      let c = r.class in
      let behind : D * (total c t - size_of r) ≤ D * (total c u - size_of r) = mul-le-mul_left D (omega (arith, s c)) in
      let debt : send c u * largest c t ≤ send c u * largest c u = mul-le-mul_left (send c u) (l c) in
      rw (idle_same c) (omega (arith, blocks c, table.div_grows (D * (total c t - size_of r) + send c u * largest c t) (D * (total c u - size_of r) + send c u * largest c u) (idle c u) (omega (arith, behind, debt))))

  bounds_grow : (r : Row) → bound t r ≤ bound u r
  unfolding bound
  bounds_grow r = omega (arith, resides r)

  most_grows : (r : Row) → most_of t r ≤ most_of u r
  unfolding most_of
  most_grows r = table.ceil_grows (residence t r) (residence u r) (period_of r) (resides r)

  grown : NoLess t u
  grown = record { header = same; members = m; total = s; shares = q; largest = l; blocking = blocks; residence = resides; bound = bounds_grow; most = most_grows }

-- ---- a row joins
pub unused_empty : (t : Contents) (k : ℕ) → (InUse t k → ⊥) → is_there (get_or t.rows k no_row) ≡ false
unused_empty t k h = go (is_there (row_at t k)) refl
  where
    go : (b : Bool) → is_there (row_at t k) ≡ b → b ≡ false
    go true e = absurd (h (table.there_used t k e))
    go false e = refl

-- a row that joins adds its wire size to its class
pub total_with : (t : Contents) (k : ℕ) (r : Row) (c : Class) → (InUse t k → ⊥) → total c (with_row k r t) ≡ total c t + part c size_of r
unfolding with_row total
total_with t k r c h = sum_with c size_of k r t.rows (unused_empty t k h)

pub join_raises : JoinRaises
unfolding with_row members total shares largest
join_raises t k r h =
    let e = unused_empty t k h in
    grown t (with_row k r t) refl
    (λ c. omega (arith, sum_with c (λ x. 1) k r t.rows e))
    (λ c. omega (arith, sum_with c size_of k r t.rows e))
    (λ c. omega (arith, sum_with c share_of k r t.rows e))
    (λ c. omega (arith, max_with c size_of k r t.rows e))

-- its ranges pass, so 8, 9, 10 and 20 decide
join_ranges : (t : Contents) (k : ℕ) (r : Row) → IsAccepted t → k < most_rows → InRange r → RangesAround (with_row k r t)
unfolding with_row
join_ranges t k r ok few range =
    record {
      some = rw length_with (omega arith);
      most = rw length_with (omega (arith, ok.ranges.most));
      idlea = ok.ranges.idlea;
      idleb = ok.ranges.idleb;
      best = ok.ranges.best;
      rows = table.every_all (λ x. is_there x ≡ true → InRange x) (rows_with k r t.rows) (λ j h. one j (eqb j k) refl);
    }
  where
    length_with : length (rows_with k r t.rows) ≡ max (length t.rows) (suc k)
    length_with = table.with_length k r t.rows

    one : (j : ℕ) (b : Bool) → eqb j k ≡ b → is_there (row_at (with_row k r t) j) ≡ true → InRange (row_at (with_row k r t) j)
    one j true q there = rw (eqb-true j k q, table.row_with t k r) range
    one j false q there =
        let u = table.with_before t k r j (eqb-false j k q) (table.there_used (with_row k r t) j there) in
        rw (table.row_with_other t k r j (eqb-false j k q)) (table.every_at (λ x. is_there x ≡ true → InRange x) t.rows ok.ranges.rows j u.below u.there)

pub join_standing : (t : Contents) (k : ℕ) (r : Row) → IsAccepted t → k < most_rows → InRange r → standing (with_row k r t) ≡ first (fair_checks (with_row k r t))
unfolding standing
join_standing t k r ok few range = rw (around_only_if (with_row k r t) (join_ranges t k r ok few range)) refl

pub join_accepted : JoinAccepted
join_accepted t k r ok few range e = standing_if (with_row k r t) (join_standing t k r ok few range ∙ e)

-- ---- a row leaves
pub leave_lowers : LeaveLowers
unfolding without_row members total shares largest
leave_lowers t k =
    grown (without_row k t) t refl
    (λ c. omega (arith, sum_without c (λ x. 1) k t.rows))
    (λ c. omega (arith, sum_without c size_of k t.rows))
    (λ c. omega (arith, sum_without c share_of k t.rows))
    (λ c. max_without c size_of k t.rows)

cleared_used : (t : Contents) (k : ℕ) → IsAccepted t → InUse t k → slopes_ok (without_row k t) ≡ true → 1 ≤ members (row_at t k).class (without_row k t)
unfolding members without_row
cleared_used t k ok u e =
    let c = (row_at t k).class in
    let s = slope_limits (without_row k t) e in
    let some : 1 ≤ members c t = sum_at c (λ r. 1) t.rows k no_row u.below (rw (table.same_self c, u.there) refl) in
    ⊎_elim (λ z. absurd (omega (arith, some, (ok.used c).0 (both c s.0 s.1 z)))) (λ h. h) (eq-zero-or-pos (members c (without_row k t)))
  where
    both : (c : Class) → used_ok A (without_row k t) ≡ true → used_ok B (without_row k t) ≡ true → members c (without_row k t) ≡ 0 → idle c t ≡ 0
    both A a b z = (used_iff A (without_row k t) a).1 z
    both B a b z = (used_iff B (without_row k t) b).1 z

-- a table with a member has a row
some_rows : (c : Class) (f : Row → ℕ) (rs : List Row) → 1 ≤ sum_over c f rs → 1 ≤ length rs
unfolding sum_over
some_rows c f [] h = absurd (omega arith)
some_rows c f (r ∷ rs) h = omega arith

pub leave_accepted : LeaveAccepted
unfolding most_in without_row members
leave_accepted t k ok u e =
    let less = leave_lowers t k in
    let s = slope_limits (without_row k t) e in
    record {
      ranges =
          record {
            some = some_rows (row_at t k).class (λ r. 1) (rows_without k t.rows) (cleared_used t k ok u e);
            most = le_trans (table.without_length k t.rows) ok.ranges.most;
            idlea = ok.ranges.idlea;
            idleb = ok.ranges.idleb;
            best = ok.ranges.best;
            rows = left (λ r. InRange r) ok.ranges.rows;
          };
      used = used_of s.0 s.1;
      slopes = s.2;
      fair = λ c. rw (idle_left c) (le_trans (less.shares c) (ok.fair c));
      timely = left (λ r. bound (without_row k t) r ≤ r.deadline) (table.every_map (λ r. is_there r ≡ true → bound t r ≤ r.deadline) (λ r. is_there r ≡ true → bound (without_row k t) r ≤ r.deadline) (λ r h g. le_trans (less.bound r) (h g)) t.rows ok.timely);
      room = λ c. omega (arith, ok.room c, sum_without c (most_of t) k t.rows, sum_grows c (most_of (without_row k t)) (most_of t) less.most (rows_without k t.rows));
    }
  where
    idle_left : (c : Class) → idle c (without_row k t) ≡ idle c t
    idle_left A = refl
    idle_left B = refl

    left : (P : Row → Type 0) → Every (λ r. is_there r ≡ true → P r) t.rows → Every (λ r. is_there r ≡ true → P r) (rows_without k t.rows)
    left P h =
        table.every_all (λ r. is_there r ≡ true → P r) (rows_without k t.rows)
        (λ j g there.
        let w = table.without_before t k j (table.there_used (without_row k t) j there) in
        rw (table.row_without t k j w.0) (table.every_at (λ r. is_there r ≡ true → P r) t.rows h j w.1.below w.1.there))

    used_of : used_ok A (without_row k t) ≡ true → used_ok B (without_row k t) ≡ true → (c : Class) → (idle c (without_row k t) ≡ 0) ↔ (members c (without_row k t) ≡ 0)
    used_of a b A = used_iff A (without_row k t) a
    used_of a b B = used_iff B (without_row k t) b
