-- What holds along a list of calls, by induction on the list: the invariant, the clock, the last instants, conservation, once, in time.
use Rattle.std.specs.Prelude.{Option, Some, None}
use Prim.Native.Nat.{ℕ, zero, suc, ◌+◌, ◌-◌, ◌≤◌, ◌<◌}
use mathlib.Core.Bool.{Bool, true, false, cond, ◌&&◌}
use mathlib.Core.List.{List, [], ◌∷◌}
use mathlib.Core.Logic.{⊎_elim}
use mathlib.Core.Path.{◌≡◌, refl, sym, ◌∙◌, ap}
use native.Mathlib.Nat.{zero-add, add_comm, eq-zero-or-pos}
use native.Mathlib.Omega.{arith}
use lib.Dec.{eqb}
use lib.ListN.{length, get_or, set, get_or-replicate}
use lib.Seq.{get_or-set_same, get_or-set_other}
use borrow.Author.Tests.{eqb-true, eqb-false, ne_eqb, ltb-false}
use Rattle.table.specs.declared.Class.{Class}
use Rattle.table.specs.declared.Class.TheVariants.{A, B}
use Rattle.table.specs.declared.Row.{Row}
use Rattle.table.specs.Limits.{most_rows, least_period}
use Rattle.table.specs.Wire.{size_for, period_of}
use Rattle.table.specs.Rows.{Contents, row_at, InUse, with_row, without_row}
use Rattle.table.specs.Checks.{accepted}
use Rattle.planner.specs.Opening.{opening}
use Rattle.table.proofs.Laws as table
use Rattle.planner.proofs.Laws as law
use Rattle.machine.specs.declared.Frame.{Frame}
use Rattle.machine.specs.declared.Wire.{Wire}
use Rattle.machine.specs.declared.Wire.TheVariants.{Free, Sending}
use Rattle.machine.specs.Limits.{last_clock}
use Rattle.machine.specs.State.{Instant, never, at, State, fresh}
use Rattle.machine.specs.Time.{Owner, shaped, unshaped, owner, progress}
use Rattle.machine.specs.Calls.{Call, offer, offer_best, advance, join, leave, Answer, taken, passed, denied, too_soon, early, quiet, row_frame, take_row, best_frame, take_best, join_row, leave_row}
use Rattle.machine.specs.Run.{Event, event, passed_by, clock_of, table_of, last_taken, newest, named, count, reported_by, reports, size_at}
use Rattle.machine.proofs.OneClass.{All}
use Rattle.machine.proofs.Invariant.{RowFrame, BestFrame, WireFrame, OnTheWire, Holds}
use Rattle.machine.proofs.Offers as offers
use Rattle.machine.proofs.Instants.{for_at}
use Rattle.machine.proofs.Fresh.{rest, fresh_kept}
use Rattle.machine.proofs.Joins as joins
use Rattle.machine.proofs.EachFrame.{OnWire, EachFrame}
use Rattle.machine.proofs.Advances.{advances}
use Rattle.machine.proofs.Conservation.{Large, in_port_lem, ended, advance_keeps, row_adds, best_adds}
use Rattle.machine.proofs.Trace.{Step, row_taken, best_taken, advanced, row_joins, row_leaves, refusal, Trace, start, step}

-- ---- what an offer to a row leaves
module _ (k p : ℕ) (s : State) where
  pub row_table : (take_row k p s).table ≡ s.table
  unfolding take_row
  row_table = refl

  row_clock : (take_row k p s).clock ≡ s.clock
  unfolding take_row
  row_clock = refl

  row_last : (take_row k p s).last ≡ set s.last k (at s.clock)
  unfolding take_row
  row_last = refl

module _ (p : ℕ) (s : State) where
  pub best_table : (take_best p s).table ≡ s.table
  unfolding take_best
  best_table = refl

  best_clock : (take_best p s).clock ≡ s.clock
  unfolding take_best
  best_clock = refl

  best_last : (take_best p s).last ≡ s.last
  unfolding take_best
  best_last = refl

-- ---- the port along a list
pub record Along (t : Contents) (es : List Event) (s : State) : Type 0 where
  pub holds : Holds s
  pub table : s.table ≡ table_of t es
  pub clock : s.clock ≡ clock_of es
  pub lasts : (k : ℕ) → InUse (table_of t es) k → get_or s.last k never ≡ last_taken k es

-- a row's instant after an offer to row k
set_newest : (last : List Instant) (k j now : ℕ) (i : Instant) → k < length last → get_or last j never ≡ i → get_or (set last k (at now)) j never ≡ newest (eqb k j) now i
set_newest last k j now i h e = go (eqb k j) refl
  where
    go : (b : Bool) → eqb k j ≡ b → get_or (set last k (at now)) j never ≡ newest b now i
    go true q = rw (← eqb-true k j q) (get_or-set_same last k (at now) never h)
    go false q = get_or-set_other last k j (at now) never (λ z. eqb-false k j q (sym z)) ∙ e

pub fresh_table : (t : Contents) → (fresh t).table ≡ t
unfolding fresh
fresh_table t = refl

fresh_clock : (t : Contents) → (fresh t).clock ≡ 0
unfolding fresh
fresh_clock t = refl

fresh_last : (t : Contents) (k : ℕ) → InUse t k → get_or (fresh t).last k never ≡ never
unfolding fresh
fresh_last t k h = get_or-replicate (length t.rows) k never never h.below

-- ---- a row joins or leaves
module _ (s : State) (k : ℕ) where
  pub join_table : (r : Row) → (join_row k r s).table ≡ with_row k r s.table
  unfolding join_row
  join_table r = refl

  join_clock : (r : Row) → (join_row k r s).clock ≡ s.clock
  unfolding join_row
  join_clock r = refl

  pub leave_table : (leave_row k s).table ≡ without_row k s.table
  unfolding leave_row
  leave_table = refl

  leave_clock : (leave_row k s).clock ≡ s.clock
  unfolding leave_row
  leave_clock = refl

  -- a row that has joined has no last instant, and the others keep theirs
  join_last : (r : Row) (j : ℕ) (i : Instant) → InUse (with_row k r s.table) j → ((j ≡ k → ⊥) → get_or s.last j never ≡ i) → get_or (join_row k r s).last j never ≡ cond (eqb k j) never i
  unfolding join_row
  join_last r j i u before = for_at (with_row k r s.table).rows (set s.last k never) j u.there ∙ go (eqb k j) refl
    where
      cleared : (ls : List Instant) (n : ℕ) → get_or (set ls n never) n never ≡ never
      cleared [] n = refl
      cleared (l ∷ ls) zero = refl
      cleared (l ∷ ls) (suc n) = cleared ls n

      go : (b : Bool) → eqb k j ≡ b → get_or (set s.last k never) j never ≡ cond b never i
      go true q = rw (← eqb-true k j q) (cleared s.last k)
      go false q = let other : j ≡ k → ⊥ = λ z. eqb-false k j q (sym z) in get_or-set_other s.last k j never never other ∙ before other

  leave_last : (j : ℕ) → InUse (without_row k s.table) j → get_or (leave_row k s).last j never ≡ get_or s.last j never
  unfolding leave_row
  leave_last j u = for_at (without_row k s.table).rows s.last j u.there

module _ (t : Contents) (ok : opening t ≡ accepted) where
  stays : {es : List Event} {s : State} (c : Call) {n l : ℕ} → Along t es s → Along t (event c (denied n l) ∷ es) s
  stays {es} (offer k p) w = record { holds = w.holds; table = w.table; clock = w.clock ∙ sym (zero-add (clock_of es)); lasts = w.lasts }
  stays {es} (offer_best p) w = record { holds = w.holds; table = w.table; clock = w.clock ∙ sym (zero-add (clock_of es)); lasts = w.lasts }
  stays {es} (advance n) w = record { holds = w.holds; table = w.table; clock = w.clock ∙ sym (zero-add (clock_of es)); lasts = w.lasts }
  stays {es} (join k r) w = record { holds = w.holds; table = w.table; clock = w.clock ∙ sym (zero-add (clock_of es)); lasts = w.lasts }
  stays {es} (leave k) w = record { holds = w.holds; table = w.table; clock = w.clock ∙ sym (zero-add (clock_of es)); lasts = w.lasts }

  step_along : {es : List Event} {s r : State} {c : Call} {a : Answer} → Along t es s → Step s c a r → Along t (event c a ∷ es) r
  step_along {es} {s} w (row_taken k p h pays late) =
      record {
        holds = record { u = w.holds.u; inv = offers.row_taken s w.holds.u w.holds.inv k p h pays late };
        table = row_table k p s ∙ w.table;
        clock = row_clock k p s ∙ w.clock ∙ sym (zero-add (clock_of es));
        lasts = λ j g. rw (row_last k p s, ← w.clock) (set_newest s.last k j s.clock (last_taken j es) (rw w.holds.inv.always.instants.lasts h.below) (w.lasts j g));
      }
  step_along {es} {s} w (best_taken p pays room) =
      record {
        holds = record { u = w.holds.u; inv = offers.best_taken s w.holds.u w.holds.inv p pays room };
        table = best_table p s ∙ w.table;
        clock = best_clock p s ∙ w.clock ∙ sym (zero-add (clock_of es));
        lasts = λ j g. rw (best_last p s) (w.lasts j g);
      }
  step_along {es} {s} w (advanced n room) =
      let r = advances s n w.holds room in
      record {
        holds = r.holds;
        table = r.table ∙ w.table;
        clock = r.clock ∙ ap (λ (x : ℕ). x + (progress n s).passed) w.clock ∙ add_comm (clock_of es) (progress n s).passed;
        lasts = λ j g. rw r.last (w.lasts j g);
      }
  step_along {es} {s} w (row_joins k x few unused there a) =
      let same : with_row k x s.table ≡ with_row k x (table_of t es) = ap (with_row k x) w.table in
      record {
        holds = record { u = joins.v s w.holds.u w.holds.inv k x few unused there a; inv = joins.joins s w.holds.u w.holds.inv k x few unused there a };
        table = join_table s k x ∙ same;
        clock = join_clock s k x ∙ w.clock ∙ sym (zero-add (clock_of es));
        lasts = λ j g. join_last s k x j (last_taken j es) (rw same g) (λ o. w.lasts j (table.with_before (table_of t es) k x j o g));
      }
  step_along {es} {s} w (row_leaves k h q a) =
      let same : without_row k s.table ≡ without_row k (table_of t es) = ap (without_row k) w.table in
      record {
        holds = record { u = rest (without_row k s.table); inv = joins.leaves s w.holds.u w.holds.inv k q a };
        table = leave_table s k ∙ same;
        clock = leave_clock s k ∙ w.clock ∙ sym (zero-add (clock_of es));
        lasts = λ j g. leave_last s k j (rw same g) ∙ w.lasts j (table.without_before (table_of t es) k j g).1;
      }
  step_along {es} {s} w (refusal c n l h q) = stays c w

  pub along : {es : List Event} {s : State} → Trace t es s → Along t es s
  along start = record { holds = record { u = rest t; inv = fresh_kept t ok }; table = fresh_table t; clock = fresh_clock t; lasts = fresh_last t }
  along (step w q) = step_along (along w) q

-- ---- conservation: taken = in the port and not reported + reported
row_sizes : (c : Class) (t : Contents) (q : List Frame) → All (RowFrame c t) q → All Large q
row_sizes c t [] p = tt
row_sizes c t (f ∷ q) p = (p.0.least, row_sizes c t q p.1)

best_sizes : (t : Contents) (now : ℕ) (q : List Frame) → All (BestFrame t now) q → All Large q
best_sizes t now [] p = tt
best_sizes t now (f ∷ q) p = (p.0.least, best_sizes t now q p.1)

wire_sizes : (t : Contents) (now : ℕ) (w : Wire) → OnTheWire t now w → OnWire Large w
wire_sizes t now Free p = tt
wire_sizes t now (Sending f l) p = go (owner t f) p
  where
    go : (o : Owner) → WireFrame o t now f l → Large f
    go (shaped c) r = r.least
    go unshaped r = r.0.least

larges : {s : State} → Holds s → EachFrame Large s
larges {s} h =
    let f = h.inv.always.frames in
    record {
      a = row_sizes A s.table s.a (f.rows A);
      b = row_sizes B s.table s.b (f.rows B);
      best = best_sizes s.table s.clock s.best f.best;
      wire = wire_sizes s.table s.clock s.wire f.wire;
    }

-- the frame that an offer takes
abbrev pub taken_frame : Contents → List Event → ℕ → ℕ → Frame
taken_frame t es k p = record { source = k; size = size_at t es k p; taken = clock_of es }

module _ (t : Contents) (row inst size : ℕ) where
  abbrev pub takes_by : Call → Answer → List Event → ℕ
  takes_by (offer k p) taken es = count (named row inst size (taken_frame t es k p))
  takes_by (offer k p) (passed n e) es = 0
  takes_by (offer k p) (denied n l) es = 0
  takes_by (offer_best p) a es = 0
  takes_by (advance n) a es = 0
  takes_by (join k r) a es = 0
  takes_by (leave k) a es = 0

  abbrev pub takes : List Event → ℕ
  takes [] = 0
  takes (event c a ∷ es) = takes_by c a es + takes es

  none_denied : (c : Call) (n l : ℕ) (es : List Event) → takes_by c (denied n l) es ≡ 0
  none_denied (offer k p) n l es = refl
  none_denied (offer_best p) n l es = refl
  none_denied (advance m) n l es = refl
  none_denied (join k r) n l es = refl
  none_denied (leave k) n l es = refl

  same_frame : (s : State) (k p : ℕ) (es : List Event) → s.table ≡ table_of t es → s.clock ≡ clock_of es → row_frame s k p ≡ taken_frame t es k p
  same_frame s k p es e f i = record { source = k; size = size_for (row_at (e i) k) p; taken = f i }

  reported_is : (n : ℕ) (e : Option Frame) → reported_by row inst size (passed n e) ≡ ended (named row inst size) e
  reported_is n None = refl
  reported_is n (Some f) = refl

  not_best : (f : Frame) → row < 32 → f.source ≡ 32 → count (named row inst size f) ≡ 0
  not_best f h e = rw (ne_eqb f.source row (λ z. omega arith)) refl

  join_keeps : (s : State) (k : ℕ) (r : Row) → in_port_lem (named row inst size) (join_row k r s) ≡ in_port_lem (named row inst size) s
  unfolding join_row
  join_keeps s k r = refl

  leave_keeps : (s : State) (k : ℕ) → in_port_lem (named row inst size) (leave_row k s) ≡ in_port_lem (named row inst size) s
  unfolding leave_row
  leave_keeps s k = refl

  module _ (ok : opening t ≡ accepted) (few : row < most_rows) where
    step_conserves : {es : List Event} {s r : State} {c : Call} {a : Answer} → Along t es s → takes es ≡ in_port_lem (named row inst size) s + reports row inst size es → Step s c a r → takes (event c a ∷ es) ≡ in_port_lem (named row inst size) r + reports row inst size (event c a ∷ es)
    step_conserves {es} {s} w h (row_taken k p g pays late) =
        let same : count (named row inst size (row_frame s k p)) ≡ count (named row inst size (taken_frame t es k p)) = ap (λ (f : Frame). count (named row inst size f)) (same_frame s k p es w.table w.clock) in
        omega (arith, row_adds (named row inst size) s k p)
    step_conserves {es} {s} w h (best_taken p pays room) = omega (arith, best_adds (named row inst size) s p, not_best (best_frame s p) few refl)
    step_conserves {es} {s} w h (advanced n room) =
        omega (arith, advance_keeps (named row inst size) s (larges w.holds) n, reported_is (progress n s).passed (progress n s).ended)
    step_conserves {es} {s} w h (row_joins k x f u g a) = omega (arith, join_keeps s k x)
    step_conserves {es} {s} w h (row_leaves k u q a) = omega (arith, leave_keeps s k)
    step_conserves {es} {s} w h (refusal c n l g q) = omega (arith, none_denied c n l es)

    fresh_none : takes [] ≡ in_port_lem (named row inst size) (fresh t) + 0
    unfolding fresh
    fresh_none = omega arith

    pub conserved : {es : List Event} {s : State} → Trace t es s → takes es ≡ in_port_lem (named row inst size) s + reports row inst size es
    conserved start = fresh_none
    conserved (step w q) = step_conserves (along t ok w) (conserved w) q

pub named_is : (row inst size : ℕ) (f : Frame) → named row inst size f ≡ true → (f.source ≡ row) × (f.taken ≡ inst) × (f.size ≡ size)
named_is row inst size f e =
    let p = table.and-true (eqb f.source row && eqb f.taken inst) (eqb f.size size) e in
    let q = table.and-true (eqb f.source row) (eqb f.taken inst) p.0 in
    (eqb-true _ _ q.0, eqb-true _ _ q.1, eqb-true _ _ p.1)

-- ---- a frame that was reported was taken before now
module _ (t : Contents) (ok : opening t ≡ accepted) (row inst size : ℕ) where
  by_report : {es : List Event} {s : State} (n : ℕ) → Along t es s → s.clock + n ≤ last_clock → (e : Option Frame) → (progress n s).ended ≡ e → 1 ≤ reported_by row inst size (passed (progress n s).passed e) → inst < (progress n s).passed + clock_of es
  by_report n w room None e h = absurd (omega arith)
  by_report {es} {s} n w room (Some f) e h = go (named row inst size f) refl h
    where
      go : (b : Bool) → named row inst size f ≡ b → 1 ≤ count b → inst < (progress n s).passed + clock_of es
      go true q h = let r = advances s n w.holds room in omega (arith, r.taken_before f e, r.clock, w.clock, (named_is row inst size f q).1)
      go false q h = absurd (omega arith)

  pub reported_before : {es : List Event} {s : State} → Trace t es s → 1 ≤ reports row inst size es → inst < clock_of es
  reported_before start h = absurd (omega arith)
  reported_before (step w (row_taken k p g pays late)) h = omega (arith, reported_before w (omega arith))
  reported_before (step w (best_taken p pays room)) h = omega (arith, reported_before w (omega arith))
  reported_before (step {es = es} {s = s} w (advanced n room)) h =
      ⊎_elim (λ z. omega (arith, reported_before w (omega arith))) (λ m. by_report n (along t ok w) room (progress n s).ended refl m) (eq-zero-or-pos (reported_by row inst size (passed (progress n s).passed (progress n s).ended)))
  reported_before (step w (row_joins k x f u g a)) h = omega (arith, reported_before w (omega arith))
  reported_before (step w (row_leaves k u q a)) h = omega (arith, reported_before w (omega arith))
  reported_before (step w (refusal c n l g q)) h = omega (arith, reported_before w (omega arith))

-- ---- once: no name is taken twice. A row's instants rise; and where a number is used again, all that were taken under it before have been reported, so before now
abbrev Seen : ℕ → Instant → ℕ → Type 0
Seen inst never now = inst < now
Seen inst (at j) now = inst ≤ j

seen_later : (inst : ℕ) (l : Instant) (now n : ℕ) → Seen inst l now → Seen inst l (n + now)
seen_later inst never now n h = omega arith
seen_later inst (at j) now n h = h

-- an offer that is not early comes after the last one
comes_after : (l : Instant) (now period inst : ℕ) → least_period ≤ period → too_soon l now period ≡ false → Seen inst l now → inst < now
comes_after never now period inst h e b = b
comes_after (at j) now period inst h e b = omega (arith, ltb-false (now - j) period e, b)

pub no_frames : (row inst size : ℕ) (s : State) → quiet s ≡ true → in_port_lem (named row inst size) s ≡ 0
unfolding quiet
no_frames row inst size s q =
    let p = table.and-true _ _ q in
    let frames = table.and-true _ _ p.0 in
    let others = table.and-true _ _ frames.1 in
    let wire = table.and-true _ _ p.1 in
    rw (joins.no_frame_lem s.a frames.0, joins.no_frame_lem s.b others.0, joins.no_frame_lem s.best others.1, joins.no_sender s.wire wire.0) refl

module _ (t : Contents) (ok : opening t ≡ accepted) (row inst size : ℕ) (few : row < most_rows) where
  pub record Once (es : List Event) : Type 0 where
    pub once : takes t row inst size es ≤ 1
    pub seen : 1 ≤ takes t row inst size es → Seen inst (last_taken row es) (clock_of es)
    pub gone : (InUse (table_of t es) row → ⊥) → 1 ≤ takes t row inst size es → inst < clock_of es

  not_early : {es : List Event} {s : State} (k : ℕ) → Along t es s → InUse s.table k → early s k ≡ false → too_soon (last_taken k es) (clock_of es) (period_of (row_at s.table k)) ≡ false
  not_early {es} {s} k w h e = rw (← w.lasts k (rw (← w.table) h), ← w.clock) e

  -- all that were taken under the row's number came before an offer to it that is let pass
  all_before : {es : List Event} {s : State} → Along t es s → Once es → InUse s.table row → early s row ≡ false → 1 ≤ takes t row inst size es → inst < clock_of es
  all_before {es} {s} w o h e m = comes_after (last_taken row es) (clock_of es) (period_of (row_at s.table row)) inst (law.period_least s.table w.holds.inv.always.accepted row h) (not_early row w h e) (o.seen m)

  take_once : {es : List Event} {s : State} (k p : ℕ) → Along t es s → Once es → InUse s.table k → early s k ≡ false → (b : Bool) → named row inst size (taken_frame t es k p) ≡ b → (x : Bool) → eqb k row ≡ x → (count b + takes t row inst size es ≤ 1) × (1 ≤ count b + takes t row inst size es → Seen inst (newest x (clock_of es) (last_taken row es)) (0 + clock_of es))
  take_once {es} {s} k p w o h e true q false x = absurd (eqb-false k row x (named_is row inst size (taken_frame t es k p) q).0)
  take_once {es} {s} k p w o h e true q true x =
      let is = named_is row inst size (taken_frame t es k p) q in (
        ⊎_elim (λ z. omega arith) (λ m. absurd (omega (arith, is.1, all_before w o (rw is.0 at h) (rw is.0 at e) m))) (eq-zero-or-pos (takes t row inst size es)),
        λ m. omega (arith, is.1),
      )
  take_once {es} {s} k p w o h e false q false x = (omega (arith, o.once), λ m. seen_later inst (last_taken row es) (clock_of es) 0 (o.seen (omega arith)))
  take_once {es} {s} k p w o h e false q true x =
      let is = eqb-true k row x in
      (omega (arith, o.once), λ m. omega (arith, all_before w o (rw is at h) (rw is at e) (omega arith)))

  -- the table does not change, and the clock does not fall
  later : {es : List Event} {c : Call} {a : Answer} → Once es → takes_by t row inst size c a es ≡ 0 → last_taken row (event c a ∷ es) ≡ last_taken row es → table_of t (event c a ∷ es) ≡ table_of t es → Once (event c a ∷ es)
  later {es} {c} {a} o n l e =
      record {
        once = omega (arith, o.once);
        seen = λ m. rw l (seen_later inst (last_taken row es) (clock_of es) (passed_by a) (o.seen (omega arith)));
        gone = λ u m. omega (arith, o.gone (λ x. u (rw e x)) (omega arith));
      }

  denied_last : (c : Call) (n l : ℕ) (es : List Event) → last_taken row (event c (denied n l) ∷ es) ≡ last_taken row es
  denied_last (offer k p) n l es = refl
  denied_last (offer_best p) n l es = refl
  denied_last (advance m) n l es = refl
  denied_last (join k r) n l es = refl
  denied_last (leave k) n l es = refl

  denied_table : (c : Call) (n l : ℕ) (es : List Event) → table_of t (event c (denied n l) ∷ es) ≡ table_of t es
  denied_table (offer k p) n l es = refl
  denied_table (offer_best p) n l es = refl
  denied_table (advance m) n l es = refl
  denied_table (join k r) n l es = refl
  denied_table (leave k) n l es = refl

  join_once : {es : List Event} {s : State} (k : ℕ) (r : Row) → Along t es s → Once es → (InUse s.table k → ⊥) → (b : Bool) → eqb k row ≡ b → (1 ≤ takes t row inst size es → Seen inst (cond b never (last_taken row es)) (0 + clock_of es)) × ((InUse (with_row k r (table_of t es)) row → ⊥) → 1 ≤ takes t row inst size es → inst < 0 + clock_of es)
  join_once {es} {s} k r w o u true e =
      let is = eqb-true k row e in
      let empty : InUse (table_of t es) row → ⊥ = λ x. u (rw (w.table, is) x) in
      ((λ m. omega (arith, o.gone empty m)), (λ v m. omega (arith, o.gone empty m)))
  join_once {es} {s} k r w o u false e =
      let other : row ≡ k → ⊥ = λ z. eqb-false k row e (sym z) in
      ((λ m. seen_later inst (last_taken row es) (clock_of es) 0 (o.seen m)), (λ v m. omega (arith, o.gone (λ x. v (table.with_still (table_of t es) k r row other x)) m)))

  step_once : {es : List Event} {s r : State} {c : Call} {a : Answer} → Trace t es s → Once es → Step s c a r → Once (event c a ∷ es)
  step_once {es} {s} w o (row_taken k p h pays late) =
      let al = along t ok w in
      let g = take_once k p al o h late (named row inst size (taken_frame t es k p)) refl (eqb k row) refl in
      record { once = g.0; seen = g.1; gone = λ u m. by_number u m (eqb k row) refl (g.1 m) }
    where
      by_number : (InUse (table_of t es) row → ⊥) → 1 ≤ count (named row inst size (taken_frame t es k p)) + takes t row inst size es → (b : Bool) → eqb k row ≡ b → Seen inst (newest b (clock_of es) (last_taken row es)) (0 + clock_of es) → inst < 0 + clock_of es
      by_number u m true e g = absurd (u (rw ((along t ok w).table, eqb-true k row e) at h))
      by_number u m false e g =
          let none : count (named row inst size (taken_frame t es k p)) ≡ 0 = ap count (other_name (named row inst size (taken_frame t es k p)) refl) in
          omega (arith, o.gone u (omega arith))
        where
          other_name : (b : Bool) → named row inst size (taken_frame t es k p) ≡ b → b ≡ false
          other_name true q = absurd (eqb-false k row e (named_is row inst size (taken_frame t es k p) q).0)
          other_name false q = refl
  step_once {es} {s} w o (best_taken p pays room) = later o refl refl refl
  step_once {es} {s} w o (advanced n room) = later o refl refl refl
  step_once {es} {s} w o (row_joins k x f u g a) =
      let j = join_once k x (along t ok w) o u (eqb k row) refl in
      record { once = omega (arith, o.once); seen = λ m. j.0 (omega arith); gone = λ v m. j.1 v (omega arith) }
  step_once {es} {s} w o (row_leaves k u q a) =
      record {
        once = omega (arith, o.once);
        seen = λ m. seen_later inst (last_taken row es) (clock_of es) 0 (o.seen (omega arith));
        gone = λ v m. omega (arith, reported_before t ok row inst size w (omega (arith, conserved t row inst size ok few w, no_frames row inst size s q)));
      }
  step_once {es} {s} w o (refusal c n l h q) = later o (none_denied t row inst size c n l es) (denied_last c n l es) (denied_table c n l es)

  pub only_once : {es : List Event} {s : State} → Trace t es s → Once es
  only_once start = record { once = omega arith; seen = λ h. absurd (omega arith); gone = λ u h. absurd (omega arith) }
  only_once (step w q) = step_once w (only_once w) q
