-- Of an accepted table every list of calls is a run: after each call there is a record with the parts of the machine's port, in places as a program's record has them.
use Prim.Native.Nat.{ℕ, ◌-◌, ◌≤◌}
use mathlib.Core.Bool.{true, false}
use mathlib.Core.List.{List, [], ◌∷◌, ◌++◌, append-nil}
use mathlib.Core.Path.{◌≡◌, refl, sym, ◌∙◌, ap}
use native.Mathlib.Omega.{arith}
use lib.ListN.{length, take, replicate}
use Rattle.std.specs.Prelude.{Ok}
use Rattle.table.specs.declared.Table.{Table}
use Rattle.table.specs.Limits.{most_rows}
use Rattle.table.specs.Rows.{no_row, Contents, rows_of, contents, with_row, without_row}
use Rattle.table.specs.Checks.{accepted}
use Rattle.planner.specs.Opening.{opening}
use Rattle.machine.specs.declared.Port.{Port}
use Rattle.machine.specs.State.{State, view, placed, port_of, Placed}
use Rattle.machine.specs.Calls.{Call, offer, offer_best, advance, join, leave, Answer, denied, after, answer, Keeps, patches, KeepsTable, Gives}
use Rattle.machine.specs.Run.{Event, event, Run, opened, called, machine, answered, SameTable, EveryList, EveryListRan}
use Rattle.machine.proofs.Placing.{placed_length, placed_shows, view_back}
use Rattle.machine.proofs.Soundness.{is_sound}
use Rattle.machine.proofs.Advances.{advances}
use Rattle.machine.proofs.Trace.{Step, row_taken, best_taken, advanced, row_joins, row_leaves, refusal, Trace, start, step, any_step}
use Rattle.machine.proofs.Lists.{row_table, best_table, join_table, leave_table, fresh_table, Along, along}
use Rattle.machine.proofs.Theorem.{along_placed, every_run}

-- ---- the machine's port after some calls, and a record that has its parts
gives : {p q : Port} {s : State} {c : Call} {a : Answer} → view p ≡ s → a ≡ answer s c → view q ≡ after s c → KeepsTable (patches c a) p.table q.table → Keeps a p q → Gives p c a q
gives v e f h k = record { answer = rw v e; port = rw v f; table = h; kept = k }

-- a table by its parts, with rows of zeros in the places behind them
made : Contents → Table
made t = record { header = t.header; count = length t.rows; rows = placed most_rows no_row t.rows }

made_back : (t : Contents) → length t.rows ≤ most_rows → contents (made t) ≡ t
unfolding made rows_of
made_back t h =
    let none : length t.rows - most_rows ≡ 0 = omega arith in
    let rows : take (length t.rows) (placed most_rows no_row t.rows) ++ replicate (length t.rows - length (placed most_rows no_row t.rows)) no_row ≡ t.rows = rw (placed_length no_row most_rows t.rows, none, append-nil) (placed_shows no_row most_rows t.rows h) in
    λ i. record { header = t.header; rows = rows i }

module _ (t : Table) (ok : opening (contents t) ≡ accepted) where
  after_calls : List Call → State
  after_calls cs = machine (contents t) (answered (contents t) cs)

  a_step : (cs : List Call) → Trace (contents t) (answered (contents t) cs) (after_calls cs) → (c : Call) → Step (after_calls cs) c (answer (after_calls cs) c) (after (after_calls cs) c)
  a_step cs w c = let i = (along (contents t) ok w).holds in any_step (after_calls cs) (is_sound (after_calls cs) i.u i.inv) c

  trace_of : (cs : List Call) → Trace (contents t) (answered (contents t) cs) (after_calls cs)
  unfolding after_calls
  trace_of [] = start
  trace_of (c ∷ cs) = let w = trace_of cs in step w (a_step cs w c)

  placed_of : (cs : List Call) → Placed (after_calls cs)
  placed_of cs = along_placed (along (contents t) ok (trace_of cs))

  record_of : (cs : List Call) (u : Table) → contents u ≡ (after_calls cs).table → view (port_of u (after_calls cs)) ≡ after_calls cs
  record_of cs u e = view_back u (after_calls cs) e (placed_of cs)

  -- ---- a table record that may stand there
  record Stands (es : List Event) (s : State) : Type 0 where
    pub table : Table
    pub has : contents table ≡ s.table
    pub same : SameTable t es table

  -- a refused call changes no table
  denied_same : (c : Call) (n l : ℕ) (es : List Event) (u : Table) → SameTable t es u → SameTable t (event c (denied n l) ∷ es) u
  denied_same (offer k p) n l es u h = h
  denied_same (offer_best p) n l es u h = h
  denied_same (advance m) n l es u h = h
  denied_same (join k r) n l es u h = h
  denied_same (leave k) n l es u h = h

  same_before : (c : Call) (n l : ℕ) (es : List Event) (u : Table) → SameTable t (event c (denied n l) ∷ es) u → SameTable t es u
  same_before (offer k p) n l es u h = h
  same_before (offer_best p) n l es u h = h
  same_before (advance m) n l es u h = h
  same_before (join k r) n l es u h = h
  same_before (leave k) n l es u h = h

  denied_keeps : (c : Call) (n l : ℕ) (u : Table) → KeepsTable (patches c (denied n l)) u u
  denied_keeps (offer k p) n l u = refl
  denied_keeps (offer_best p) n l u = refl
  denied_keeps (advance m) n l u = refl
  denied_keeps (join k r) n l u = refl
  denied_keeps (leave k) n l u = refl

  next : {es : List Event} {s r : State} {c : Call} {a : Answer} → Along (contents t) es s → Step s c a r → Stands es s → Stands (event c a ∷ es) r
  next {s = s} w (row_taken k p h pays late) m = record { table = m.table; has = m.has ∙ sym (row_table k p s); same = m.same }
  next {s = s} w (best_taken p pays room) m = record { table = m.table; has = m.has ∙ sym (best_table p s); same = m.same }
  next {s = s} w (advanced n room) m = record { table = m.table; has = m.has ∙ sym (advances s n w.holds room).table; same = m.same }
  next {s = s} w (row_joins k x f u g a) m = record { table = made (with_row k x s.table); has = made_back (with_row k x s.table) a.ranges.most ∙ sym (join_table s k x); same = tt }
  next {s = s} w (row_leaves k u q a) m = record { table = made (without_row k s.table); has = made_back (without_row k s.table) a.ranges.most ∙ sym (leave_table s k); same = tt }
  next {es} w (refusal c n l h q) m = record { table = m.table; has = m.has; same = denied_same c n l es m.table m.same }

  stands : (cs : List Call) → Stands (answered (contents t) cs) (after_calls cs)
  unfolding after_calls
  stands [] = record { table = t; has = sym (fresh_table (contents t)); same = refl }
  stands (c ∷ cs) = let w = trace_of cs in next (along (contents t) ok w) (a_step cs w c) (stands cs)

  -- ---- a run to each record that has its parts
  RunsTo : List Call → Type 0
  RunsTo cs = (p : Port) → view p ≡ after_calls cs → SameTable t (answered (contents t) cs) p.table → Run t (answered (contents t) cs) p

  none : RunsTo []
  unfolding RunsTo after_calls
  none p v e = opened {r = record { answer = Ok tt; port = p }} (record { verdict = sym ok; port = v; table = e }) ok

  shown_table : (p : Port) → (view p).table ≡ contents p.table
  unfolding view
  shown_table p = refl

  -- before a call that isn't refused the record may be one that was made; a refused one leaves its record as it was
  module _ (cs : List Call) (before : RunsTo cs) where
    -- no row joins or leaves: the record has the table
    not_patched : {c : Call} {a : Answer} {r : State} → a ≡ answer (after_calls cs) c → r ≡ after (after_calls cs) c → r.table ≡ (after_calls cs).table → patches c a ≡ false → (p : Port) → view p ≡ r → SameTable t (answered (contents t) cs) p.table → Keeps a (port_of p.table (after_calls cs)) p → Run t (event c a ∷ answered (contents t) cs) p
    unfolding RunsTo port_of
    not_patched {c} {a} e f h n p v g k =
        let has : contents p.table ≡ (after_calls cs).table = sym (shown_table p) ∙ ap (λ (x : State). x.table) v ∙ h in
        called {c = c} {a = a} (before (port_of p.table (after_calls cs)) (record_of cs p.table has) g) (gives (record_of cs p.table has) e (v ∙ f) (rw n refl) k)

    -- one does: any record that may have stood there
    patched : {c : Call} {a : Answer} {r : State} → a ≡ answer (after_calls cs) c → r ≡ after (after_calls cs) c → patches c a ≡ true → (p : Port) → view p ≡ r → Keeps a (port_of (stands cs).table (after_calls cs)) p → Run t (event c a ∷ answered (contents t) cs) p
    unfolding RunsTo port_of
    patched {c} {a} e f n p v k =
        let m = stands cs in
        called {c = c} {a = a} (before (port_of m.table (after_calls cs)) (record_of cs m.table m.has) m.same) (gives (record_of cs m.table m.has) e (v ∙ f) (rw n tt) k)

    one_more : {c : Call} {a : Answer} {r : State} → Step (after_calls cs) c a r → a ≡ answer (after_calls cs) c → r ≡ after (after_calls cs) c → (p : Port) → view p ≡ r → SameTable t (event c a ∷ answered (contents t) cs) p.table → Run t (event c a ∷ answered (contents t) cs) p
    unfolding RunsTo
    one_more (row_taken k n h pays late) e f p v g = not_patched e f (row_table k n (after_calls cs)) refl p v g tt
    one_more (best_taken n pays room) e f p v g = not_patched e f (best_table n (after_calls cs)) refl p v g tt
    one_more (advanced n room) e f p v g = not_patched e f (advances (after_calls cs) n (along (contents t) ok (trace_of cs)).holds room).table refl p v g tt
    one_more (row_joins k x h u y a) e f p v g = patched e f refl p v tt
    one_more (row_leaves k u q a) e f p v g = patched e f refl p v tt
    one_more (refusal c n l h q) e f p v g = called (before p v (same_before c n l (answered (contents t) cs) p.table g)) (gives v e (v ∙ f) (denied_keeps c n l p.table) refl)

  all : (cs : List Call) → RunsTo cs
  unfolding RunsTo after_calls
  all [] = none
  all (c ∷ cs) = one_more cs (all cs) (a_step cs (trace_of cs) c) refl refl

pub every_list : EveryList
unfolding RunsTo after_calls
every_list t ok cs p v e = all t ok cs p v e

pub every_list_ran : EveryListRan
unfolding after_calls port_of
every_list_ran t ok cs =
    let m = stands t ok cs in
    let p = port_of m.table (after_calls t ok cs) in
    let r = every_list t ok cs p (record_of t ok cs m.table m.has) m.same in
    record { port = p; run = r; demand3 = every_run t (answered (contents t) cs) p r }
