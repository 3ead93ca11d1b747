-- Demand 3. Every run of the calls, from a record that opening gave for an accepted table, keeps the three promises: a taken frame is reported once and
-- within the largest bound that its row has had since, no call meets 18, and no row's offer fails for lack of space. There is no other hypothesis. A step of a run may be a call on a
-- record by value or on a lent record: the run asks only what the call gives back.
use Rattle.std.specs.Prelude.{Option, Some, None}
use Prim.Native.Nat.{ℕ, ◌+◌, ◌-◌, ◌≤◌, ◌<◌, max}
use mathlib.Core.Bool.{Bool, true, false, not, cond, ◌&&◌, false≢true}
use mathlib.Core.List.{List, [], ◌∷◌}
use mathlib.Core.Logic.{◌⊎◌, inl, inr, ⊎_elim}
use mathlib.Core.Path.{◌≡◌, refl, sym, ◌∙◌, ap, subst}
use native.Mathlib.Nat.{eq-zero-or-pos, le_trans, le-add_left}
use native.Mathlib.Omega.{arith}
use lib.Dec.{ltb, eqb}
use lib.ListN.{length, length-map}
use borrow.Author.Tests.{eq-eqb, ltb-true}
use Rattle.table.specs.Wire.{period_of}
use Rattle.table.specs.declared.Class.{Class}
use Rattle.table.specs.declared.Class.TheVariants.{A, B}
use Rattle.table.specs.declared.Table.{Table}
use Rattle.table.specs.Limits.{most_rows, left_at_report}
use Rattle.table.specs.Rows.{Contents, contents, row_at, InUse}
use Rattle.table.specs.Checks.{accepted}
use Rattle.planner.specs.Bound.{residence, bound, bounds_of}
use Rattle.planner.specs.Opening.{opening}
use Rattle.planner.proofs.Laws as law
use Rattle.machine.specs.declared.Frame.{Frame}
use Rattle.machine.specs.declared.Wire.{Wire}
use Rattle.machine.specs.declared.Wire.TheVariants.{Free, Sending}
use Rattle.machine.specs.declared.Port.{Port}
use Rattle.machine.specs.Limits.{last_clock, class_places}
use Rattle.machine.specs.State.{State, queue, view, Placed}
use Rattle.machine.specs.Time.{Owner, shaped, unshaped, owner, progress}
use Rattle.machine.specs.Record.{sound}
use Rattle.machine.specs.Calls.{Call, offer, offer_best, advance, join, leave, Answer, taken, passed, denied, too_soon, after, answer}
use Rattle.machine.specs.Run.{Event, event, Run, opened, called, clock_of, machine, AsMachine, table_of, bound_in, Happened, now, since, leaves, stays, limit, last_taken, named, count, reported_by, reports, size_at, Served, EveryRun}
use Rattle.machine.proofs.OneClass.{All}
use Rattle.machine.proofs.Invariant.{RowFrame, BestFrame, WireFrame, OnTheWire, Inv}
use Rattle.machine.proofs.Age.{Soon, queues_soon, wire_soon}
use Rattle.machine.proofs.Soundness.{is_sound}
use Rattle.machine.proofs.FromSound.{clauses, in_class_places}
use Rattle.machine.proofs.Advances.{advances}
use Rattle.machine.proofs.Conservation.{among, on_wire, in_port_lem}
use Rattle.machine.proofs.Trace.{Step, row_taken, best_taken, advanced, row_joins, row_leaves, refusal, Trace, start, step, any_step, let_pass}
use Rattle.machine.proofs.Lists.{Along, along, takes, conserved, reported_before, no_frames, only_once, named_is}

-- ---- a frame that is in the port and not reported is younger than its bound
find : (is : Frame → Bool) (P : Frame → Type 0) (q : List Frame) → All P q → 1 ≤ among is q → (f : Frame) × (is f ≡ true) × P f
find is P [] p h = absurd (omega arith)
find is P (f ∷ q) p h = go (is f) refl (find is P q p.1)
  where
    go : (b : Bool) → is f ≡ b → (1 ≤ among is q → (g : Frame) × (is g ≡ true) × P g) → (g : Frame) × (is g ≡ true) × P g
    go true e rest = (f, e, p.0)
    go false e rest = rest (let z : count (is f) ≡ 0 = ap count e in omega arith)

module _ (s : State) (u : Class → ℕ) (i : Inv s u) (row inst size : ℕ) (few : row < most_rows) where
  abbrev InTime : Type 0
  InTime = s.clock < inst + bound s.table (row_at s.table row)

  by_frame : (f : Frame) → named row inst size f ≡ true → Soon s.table s.clock f → InTime
  by_frame f e y =
      let is = named_is row inst size f e in
      let soon : (s.clock - f.taken) + left_at_report < residence s.table (row_at s.table row) = rw is.0 at y.soon in
      omega (arith, y.past, is.1, law.bound_report s.table (row_at s.table row))

  -- a frame on the wire that bears no mark names a row in use
  wire_in_use : (f : Frame) (l : ℕ) → f.source ≡ row → OnTheWire s.table s.clock (Sending f l) → InUse s.table f.source
  wire_in_use f l e p = go (owner s.table f) p
    where
      go : (o : Owner) → WireFrame o s.table s.clock f l → InUse s.table f.source
      go (shaped c) r = r.names
      go unshaped r = absurd (omega (arith, r.0.mark))

  by_wire : (w : Wire) → s.wire ≡ w → 1 ≤ on_wire (named row inst size) w → InTime
  by_wire Free e h = absurd (omega arith)
  by_wire (Sending f l) e h = go (ltb left_at_report l) (named row inst size f) refl refl h
    where
      go : (x b : Bool) → ltb left_at_report l ≡ x → named row inst size f ≡ b → 1 ≤ cond x (count b) 0 → InTime
      go true true p q g = by_frame f q (wire_soon s u i f l e (ltb-true left_at_report l p) (wire_in_use f l (named_is row inst size f q).0 (rw e at i.always.frames.wire)))
      go true false p q g = absurd (omega arith)
      go false b p q g = absurd (omega arith)

  by_best : (f : Frame) × (named row inst size f ≡ true) × BestFrame s.table s.clock f → InTime
  by_best r = absurd (omega (arith, r.2.mark, (named_is row inst size r.0 r.1).0))

  in_port_young : 1 ≤ in_port_lem (named row inst size) s → InTime
  in_port_young h =
      ⊎_elim
      (λ za.
      ⊎_elim
      (λ zb.
      ⊎_elim (λ zc. by_wire s.wire refl (omega arith)) (λ pc. by_best (find (named row inst size) (BestFrame s.table s.clock) s.best i.always.frames.best pc)) (eq-zero-or-pos (among (named row inst size) s.best)))
      (λ pb. let r = find (named row inst size) (Soon s.table s.clock) s.b (queues_soon s u i B) pb in by_frame r.0 r.1 r.2)
      (eq-zero-or-pos (among (named row inst size) s.b)))
      (λ pa. let r = find (named row inst size) (Soon s.table s.clock) s.a (queues_soon s u i A) pa in by_frame r.0 r.1 r.2)
      (eq-zero-or-pos (among (named row inst size) s.a))

  -- its row is there
  of_row : (c : Class) → (f : Frame) × (named row inst size f ≡ true) × RowFrame c s.table f → InUse s.table row
  of_row c r = rw (named_is row inst size r.0 r.1).0 at r.2.names

  wire_used : (w : Wire) → s.wire ≡ w → 1 ≤ on_wire (named row inst size) w → InUse s.table row
  wire_used Free e h = absurd (omega arith)
  wire_used (Sending f l) e h = go (ltb left_at_report l) (named row inst size f) refl h
    where
      go : (x b : Bool) → named row inst size f ≡ b → 1 ≤ cond x (count b) 0 → InUse s.table row
      go true true q g = let is = (named_is row inst size f q).0 in rw is at (wire_in_use f l is (rw e at i.always.frames.wire))
      go true false q g = absurd (omega arith)
      go false b q g = absurd (omega arith)

  in_port_used : 1 ≤ in_port_lem (named row inst size) s → InUse s.table row
  in_port_used h =
      ⊎_elim
      (λ za.
      ⊎_elim
      (λ zb.
      ⊎_elim
      (λ zc. wire_used s.wire refl (omega arith))
      (λ pc. let r = find (named row inst size) (BestFrame s.table s.clock) s.best i.always.frames.best pc in absurd (omega (arith, r.2.mark, (named_is row inst size r.0 r.1).0)))
      (eq-zero-or-pos (among (named row inst size) s.best)))
      (λ pb. of_row B (find (named row inst size) (RowFrame B s.table) s.b (i.always.frames.rows B) pb))
      (eq-zero-or-pos (among (named row inst size) s.b)))
      (λ pa. of_row A (find (named row inst size) (RowFrame A s.table) s.a (i.always.frames.rows A) pa))
      (eq-zero-or-pos (among (named row inst size) s.a))

-- ---- of two things that happened, the one is before the other or it is not
ordered : {x y : Event} {earlier before es : List Event} → Happened x earlier es → Happened y before es → Happened y before (x ∷ earlier) ⊎ Happened x earlier before
ordered now h = inl h
ordered (since g) now = inr g
ordered (since g) (since h) = ordered g h

-- ---- what happened along a list
module _ (t : Contents) (ok : opening t ≡ accepted) where
  -- the list up to what happened
  up_to_lem : {e : Event} {before es : List Event} {s : State} → Trace t es s → Happened e before es → (r : State) × Trace t before r
  up_to_lem start h = elim h [ ]
  up_to_lem (step w q) now = (_, w)
  up_to_lem (step w q) (since h) = up_to_lem w h

  with_report : {e : Event} {before es : List Event} {s : State} → Trace t es s → Happened e before es → (r : State) × Trace t (e ∷ before) r
  with_report w now = (_, w)
  with_report (step w q) (since h) = with_report w h

  -- a taken offer names a row, and counts
  rows_below : {es : List Event} (s : State) {c : Call} {a : Answer} (r : State) (row p : ℕ) → Trace t es s → Step s c a r → event c a ≡ event (offer row p) taken → row < most_rows
  rows_below s r row p w (row_taken k q h pays late) e = let same : k ≡ row = cc in omega (arith, same, h.below, law.rows_most s.table (along t ok w).holds.inv.always.accepted)
  rows_below s r row p w (best_taken q pays room) e = cc
  rows_below s r row p w (advanced n room) e = cc
  rows_below s r row p w (row_joins k x f u g a) e = cc
  rows_below s r row p w (row_leaves k u z a) e = cc
  rows_below s r row p w (refusal c n l g q) e = cc

  taken_row : {es : List Event} {s : State} (row p : ℕ) (before : List Event) → Trace t es s → Happened (event (offer row p) taken) before es → row < most_rows
  taken_row row p before start h = elim h [ ]
  taken_row row p before (step {s = s} {r = r} w x) now = rows_below s r row p w x refl
  taken_row row p before (step w q) (since h) = taken_row row p before w h

  took : (row p : ℕ) (before : List Event) {es : List Event} → Happened (event (offer row p) taken) before es → 1 ≤ takes t row (clock_of before) (size_at t before row p) es
  took row p before now = rw (eq-eqb row row refl, eq-eqb (clock_of before) (clock_of before) refl, eq-eqb (size_at t before row p) (size_at t before row p) refl) (omega arith)
  took row p before (since {f = event c a} h) = le_trans (took row p before h) (le-add_left _ _)

  -- ---- one frame: its row, its instant and its size
  module _ (row payload : ℕ) (before : List Event) where
    abbrev inst : ℕ
    inst = clock_of before

    abbrev size : ℕ
    size = size_at t before row payload

    abbrev Took : List Event → Type 0
    Took es = Happened (event (offer row payload) taken) before es

    -- it is in the port and not reported, or reported, once
    one_or_other : {es : List Event} {s : State} → Trace t es s → Took es → in_port_lem (named row inst size) s + reports row inst size es ≡ 1
    one_or_other w h =
        let few = taken_row row payload before w h in
        omega (arith, conserved t row inst size ok few w, (only_once t ok row inst size few w).once, took row payload before h)

    -- ---- the limit covers the bound of now, as long as the row stays; when it leaves, the frame has been reported
    abbrev Covered : (es : List Event) → Took es → Type 0
    Covered es h = ((stays row h ≡ true) × (bound_in t es row ≤ limit t row h)) ⊎ (1 ≤ reports row inst size es)

    still : (f : Event) {es : List Event} (h : Took es) → leaves row f ≡ false → reports row inst size es ≤ reports row inst size (f ∷ es) → Covered es h → Covered (f ∷ es) (since h)
    still f {es} h e grow (inl p) = inl (rw (p.0, e) refl, rw (p.0, e) (omega arith))
    still f {es} h e grow (inr m) = inr (omega arith)

    more_reports : (c : Call) (a : Answer) (es : List Event) → reports row inst size es ≤ reports row inst size (event c a ∷ es)
    more_reports c a es = le-add_left _ _

    no_leave : (c : Call) (n l : ℕ) → leaves row (event c (denied n l)) ≡ false
    no_leave (offer k p) n l = refl
    no_leave (offer_best p) n l = refl
    no_leave (advance m) n l = refl
    no_leave (join k r) n l = refl
    no_leave (leave k) n l = refl

    covers : {es : List Event} {s : State} → Trace t es s → (h : Took es) → Covered es h
    covers start h = elim h [ ]
    covers (step w q) now = inl (refl, omega arith)
    covers (step {es = es} w (row_taken k p g pays late)) (since h) = still (event (offer k p) taken) h refl (more_reports (offer k p) taken es) (covers w h)
    covers (step {es = es} w (best_taken p pays room)) (since h) = still (event (offer_best p) taken) h refl (more_reports (offer_best p) taken es) (covers w h)
    covers (step {es = es} {s = s} w (advanced n room)) (since h) = let a = passed (progress n s).passed (progress n s).ended in still (event (advance n) a) h refl (more_reports (advance n) a es) (covers w h)
    covers (step {es = es} w (row_joins k x f u g a)) (since h) = still (event (join k x) taken) h refl (more_reports (join k x) taken es) (covers w h)
    covers (step {es = es} {s = s} w (row_leaves k u q a)) (since h) = by_number (eqb k row) refl (covers w h)
      where
        by_number : (b : Bool) → eqb k row ≡ b → Covered es h → Covered (event (leave k) taken ∷ es) (since h)
        by_number true e c = inr (omega (arith, one_or_other w h, no_frames row inst size s q))
        by_number false e c = still (event (leave k) taken) h e (more_reports (leave k) taken es) c
    covers (step {es = es} w (refusal c n l g q)) (since h) = still (event c (denied n l)) h (no_leave c n l) (more_reports c (denied n l) es) (covers w h)

    limit_grows : (f : Event) {es : List Event} (h : Took es) → limit t row h ≤ limit t row (since {f = f} h)
    limit_grows f {es} h = go (stays row h && not (leaves row f))
      where
        go : (b : Bool) → limit t row h ≤ cond b (max (limit t row h) (bound_in t (f ∷ es) row)) (limit t row h)
        go true = omega arith
        go false = omega arith

    -- ---- a report is in time
    advance_in_time : {es : List Event} {s : State} (n : ℕ) → Along t es s → InUse s.table row → s.clock + n ≤ last_clock → (e : Option Frame) → (progress n s).ended ≡ e → reported_by row inst size (passed (progress n s).passed e) ≡ 1 → (progress n s).passed + clock_of es ≤ inst + bound_in t es row
    advance_in_time n w u room None e q = absurd (omega arith)
    advance_in_time {es} {s} n w u room (Some f) e q = go (named row inst size f) refl
      where
        go : (b : Bool) → named row inst size f ≡ b → (progress n s).passed + clock_of es ≤ inst + bound_in t es row
        go true z =
            let is = named_is row inst size f z in
            let r = advances s n w.holds room in
            let due : (progress n s).state.clock ≤ f.taken + bound s.table (row_at s.table row) = rw is.0 at (r.in_time f e (rw is.0 u)) in
            let due-now : (progress n s).state.clock ≤ inst + bound_in t es row = subst (λ (c : Contents). (progress n s).state.clock ≤ inst + bound c (row_at c row)) w.table (rw is.1 at due) in
            omega (arith, r.clock, w.clock)
        go false z = let none : count (named row inst size f) ≡ 0 = ap count z in absurd (omega arith)

    -- before its report the frame is in the port, so its row is there
    row_there : {es : List Event} {s : State} → Trace t es s → Took es → reports row inst size es ≡ 0 → InUse s.table row
    row_there {es} {s} w h z =
        let al = along t ok w in
        in_port_used s al.holds.u al.holds.inv row inst size (taken_row row payload before w h) (omega (arith, one_or_other w h))

    -- by the step that reports it
    step_in_time : {es : List Event} (s : State) {c : Call} {a : Answer} (r : State) → Trace t es s → Step s c a r → (h : Took es) → reported_by row inst size a ≡ 1 → clock_of (event c a ∷ es) ≤ inst + limit t row (since {f = event c a} h)
    step_in_time s r w (row_taken k p g pays late) h q = absurd (omega arith)
    step_in_time s r w (best_taken p pays room) h q = absurd (omega arith)
    step_in_time {es = es} s r w (advanced n room) h q =
        let grown = limit_grows (event (advance n) (passed (progress n s).passed (progress n s).ended)) h in
        let whole = one_or_other (step w (advanced n room)) (since h) in
        let none : reports row inst size es ≡ 0 = omega arith in
        ⊎_elim
        (λ p. omega (arith, p.1, advance_in_time n (along t ok w) (row_there w h none) room (progress n s).ended refl q))
        (λ m. absurd (omega arith))
        (covers w h)
    step_in_time s r w (row_joins k x f u g a) h q = absurd (omega arith)
    step_in_time s r w (row_leaves k u z a) h q = absurd (omega arith)
    step_in_time s r w (refusal c n l g e) h q = absurd (omega arith)

    report_in_time : {es : List Event} {s : State} {c : Call} {a : Answer} → Trace t (event c a ∷ es) s → (h : Took es) → reported_by row inst size a ≡ 1 → clock_of (event c a ∷ es) ≤ inst + limit t row (since {f = event c a} h)
    report_in_time (step {s = s} {r = r} w x) h q = step_in_time s r w x h q

    -- what reported it counts
    some_report : {c : Call} {a : Answer} {earlier es : List Event} → Happened (event c a) earlier es → reported_by row inst size a ≡ 1 → 1 ≤ reports row inst size es
    some_report now q = omega arith
    some_report (since {f = event c a} h) q = omega (arith, some_report h q)

    in_time : {es : List Event} {s : State} → Trace t es s → Took es → (c : Call) (a : Answer) (earlier : List Event) → Happened (event c a) earlier es → reported_by row inst size a ≡ 1 → (g : Took (event c a ∷ earlier)) × (clock_of (event c a ∷ earlier) ≤ inst + limit t row g)
    in_time {es} w h c a earlier x q = by_order (ordered x h)
      where
        at_report : (b : List Event) → b ≡ event c a ∷ earlier → (g : Took b) → Took earlier
        at_report b e now = absurd (not_taken a (second e) q)
          where
            not_taken : (z : Answer) → taken ≡ z → reported_by row inst size z ≡ 1 → ⊥
            not_taken taken e r = omega arith
            not_taken (passed n o) e r = let y : ◌≡◌ {A = ℕ} 0 1 = cc in omega arith
            not_taken (denied n l) e r = omega arith

            second : event (offer row payload) taken ∷ before ≡ event c a ∷ earlier → taken ≡ a
            second e = cc
        at_report b e (since {f = f} {es = es} g) = let same : es ≡ earlier = cc in rw (← same) g

        by_order : Took (event c a ∷ earlier) ⊎ Happened (event c a) earlier before → (g : Took (event c a ∷ earlier)) × (clock_of (event c a ∷ earlier) ≤ inst + limit t row g)
        by_order (inl g) = let h' = at_report _ refl g in (since h', report_in_time (with_report w x).1 h' q)
        by_order (inr y) = let b = up_to_lem w h in absurd (omega (arith, reported_before t ok row inst size b.1 (some_report y q)))

  -- no call meets 18
  unbroken : {es : List Event} {s : State} → Trace t es s → (c : Call) (place : ℕ) (before : List Event) → Happened (event c (denied 18 place)) before es → ⊥
  unbroken start c place before h = elim h [ ]
  unbroken (step w (refusal d n l g r)) c place before now = g.other refl
  unbroken (step w x) c place before (since y) = unbroken w c place before y

  -- every offer that 11, 12 and 13 let pass is taken
  sound_along : {es : List Event} {s : State} → Along t es s → sound s ≡ true
  sound_along {es} {s} w = is_sound s w.holds.u w.holds.inv

  passes : {es : List Event} {s : State} → Along t es s → (row p : ℕ) → InUse (table_of t es) row → p ≤ (row_at (table_of t es) row).payload → too_soon (last_taken row es) (clock_of es) (period_of (row_at (table_of t es) row)) ≡ false → answer s (offer row p) ≡ taken
  passes {es} {s} w row p h g e =
      let_pass s (sound_along w) row p (rw w.table h) (rw w.table g) (rw (w.table, w.clock) (rw (w.lasts row h) e))

  passes_step : {es : List Event} (s : State) {c : Call} {a b : Answer} (r : State) (row p : ℕ) → Trace t es s → Step s c a r → event c a ≡ event (offer row p) b → InUse (table_of t es) row → p ≤ (row_at (table_of t es) row).payload → too_soon (last_taken row es) (clock_of es) (period_of (row_at (table_of t es) row)) ≡ false → b ≡ taken
  passes_step s r row p w (row_taken k q x pays late) e h g f = cc
  passes_step s r row p w (best_taken q pays room) e h g f = cc
  passes_step s r row p w (advanced n room) e h g f = cc
  passes_step s r row p w (row_joins k x i u y a) e h g f = cc
  passes_step s r row p w (row_leaves k u z a) e h g f = cc
  passes_step s r row p w (refusal c n l x q) e h g f =
      let same : c ≡ offer row p = cc in
      let passed = passes (along t ok w) row p h g f in
      cc

  space : {es : List Event} {s : State} → Trace t es s → (row p : ℕ) (a : Answer) (before : List Event) → Happened (event (offer row p) a) before es → InUse (table_of t before) row → p ≤ (row_at (table_of t before) row).payload → too_soon (last_taken row before) (clock_of before) (period_of (row_at (table_of t before) row)) ≡ false → a ≡ taken
  space start row p a before x h g e = elim x [ ]
  space (step {s = s} {r = r} w x) row p a before now h g e = passes_step s r row p w x refl h g e
  space (step w x) row p a before (since y) h g e = space w row p a before y h g e

  -- a taken frame is served
  served : {es : List Event} {s : State} → Trace t es s → (row p : ℕ) (before : List Event) (h : Happened (event (offer row p) taken) before es) → Served t es row p before h
  served {es} {s} w row p before h =
      let one = one_or_other row p before w h in
      let covered = covers row p before w h in
      let at_end = along t ok w in
      record {
        once = omega arith;
        in_time = λ c a earlier y q. in_time row p before w h c a earlier y q;
        reported = λ late.
            ⊎_elim
            (λ c.
            let gone : in_port_lem (named row (clock_of before) (size_at t before row p)) s ≡ 0 =
            ⊎_elim (λ z. z)
            (λ m.
            absurd
            (omega (
              arith,
              at_end.clock,
              c.1,
              subst (λ (u : Contents). s.clock < clock_of before + bound u (row_at u row)) at_end.table (in_port_young s at_end.holds.u at_end.holds.inv row (clock_of before) (size_at t before row p) (taken_row row p before w h) m),
            )))
            (eq-zero-or-pos (in_port_lem (named row (clock_of before) (size_at t before row p)) s)) in
            omega arith)
            (λ m. omega arith)
            covered;
        departed = λ e. ⊎_elim (λ c. absurd (false≢true (sym e ∙ c.0))) (λ m. omega arith) covered;
      }

-- ---- a run is a trace
-- no more frames of a class wait than its queue has places, and all of a port's parts find theirs
class_places_lem : {t : Contents} {es : List Event} {s : State} → Along t es s → (c : Class) → length (queue c s) ≤ class_places
class_places_lem {s = s} w c = in_class_places s (clauses s (is_sound s w.holds.u w.holds.inv)) c

bounds_length : (t : Contents) → length (bounds_of t) ≡ length t.rows
unfolding bounds_of
bounds_length t = length-map t.rows _

pub along_placed : {t : Contents} {es : List Event} {s : State} → Along t es s → Placed s
along_placed w =
    let a = w.holds.inv.always in
    record { rows = a.accepted.ranges.most; bounds = ap (λ (l : List ℕ). length l) a.bounds ∙ bounds_length _; a = class_places_lem w A; b = class_places_lem w B; best = a.frames.few; last = a.instants.in_use_lem }

opened_accepted : {t : Table} {es : List Event} {p : Port} → Run t es p → opening (contents t) ≡ accepted
opened_accepted (opened o e) = e
opened_accepted (called r g) = opened_accepted r

traced : {t : Table} {es : List Event} {p : Port} → Run t es p → Trace (contents t) es (view p)
traced {t} (opened o e) = rw o.port start
traced {t} (called {p = p} {c = c} r g) =
    let w = traced r in
    let a = along (contents t) (opened_accepted r) w in
    rw (g.port, g.answer) (step w (any_step (view p) (is_sound (view p) a.holds.u a.holds.inv) c))

on_machine : {t : Table} {es : List Event} {p : Port} → Run t es p → view p ≡ machine (contents t) es
on_machine {t} (opened o e) = o.port
on_machine {t} (called {c = c} r g) = g.port ∙ ap (λ (s : State). after s c) (on_machine r)

as_machine : {t : Table} {es : List Event} {p : Port} → Run t es p → AsMachine (contents t) es
as_machine {t} (opened o e) = tt
as_machine {t} (called {c = c} r g) = (g.answer ∙ ap (λ (s : State). answer s c) (on_machine r), as_machine r)

-- every run leads to a port whose parts find their places
pub run_placed : {t : Table} {es : List Event} {p : Port} → Run t es p → Placed (view p)
run_placed {t} r = along_placed (along (contents t) (opened_accepted r) (traced r))

-- A step of a run is any call that promises `Gives`: those by value, and the advance of a lent record (crate lent_port).
pub every_run : EveryRun
every_run t es p r =
    let ok = opened_accepted r in
    let w = traced r in
    let a = along (contents t) ok w in
    record {
      faithful = record { answers = as_machine r; clock = a.clock; port = on_machine r; table = a.table; bounds = a.holds.inv.always.bounds ∙ ap bounds_of a.table };
      served = λ row payload before x. served (contents t) ok w row payload before x;
      places = class_places_lem a;
      unbroken = λ c place before x. unbroken (contents t) ok w c place before x;
      space = λ row payload a before x h g e. space (contents t) ok w row payload a before x h g e;
    }
