-- A row that joins keeps the invariant: L, H and the sums never fall, so each line keeps or gains room, and the row's token pays for what it adds to the sum. A row that
-- leaves finds no frame and no credit.
use Prim.Native.Nat.{ℕ, zero, suc, ◌+◌, ◌-◌, ◌*◌, ◌≤◌, ◌<◌, max}
use mathlib.Core.Bool.{Bool, true, false, cond, ◌&&◌, false≢true}
use mathlib.Core.List.{List, [], ◌∷◌, ◌++◌}
use mathlib.Core.Path.{◌≡◌, refl, sym, ◌∙◌, ap, subst}
use native.Mathlib.Nat.{mul-le-mul_left, le_trans}
use native.Mathlib.Omega.{arith}
use lib.IntN.{ℤ, pos, negsuc}
use lib.Dec.{eqb, ltb}
use lib.ListN.{length, get_or, set}
use lib.Seq.{get_or-set_other}
use borrow.Author.Tests.{eqb-true, eqb-false, ltb-true, ltb-false}
use Rattle.table.specs.declared.Class.{Class}
use Rattle.table.specs.declared.Class.TheVariants.{A, B}
use Rattle.table.specs.declared.Row.{Row}
use Rattle.table.specs.Limits.{D, most_rows}
use Rattle.table.specs.Wire.{size_of, period_of}
use Rattle.table.specs.Rows.{no_row, is_there, Contents, row_at, same_class, in_use, InUse, rows_with, with_row, without_row}
use Rattle.table.proofs.Laws as table
use Rattle.planner.specs.Sums.{part, largest, idle, send, best_size}
use Rattle.planner.specs.Bound.{blocking, bounds_of}
use Rattle.planner.specs.Opening.{IsAccepted}
use Rattle.planner.specs.Growth.{NoLess}
use Rattle.planner.proofs.Laws as law
use Rattle.planner.proofs.Growth as growth
use Rattle.machine.specs.declared.Frame.{Frame}
use Rattle.machine.specs.declared.Wire.{Wire}
use Rattle.machine.specs.declared.Wire.TheVariants.{Free, Sending}
use Rattle.machine.specs.State.{Instant, never, at, instants_for, State, credit, queue}
use Rattle.machine.specs.Time.{Owner, shaped, unshaped, owner, owns}
use Rattle.machine.specs.Record.{taken_in}
use Rattle.machine.specs.Calls.{none_in, is_free, is_zero, quiet, join_row, leave_row}
use Rattle.machine.proofs.Credit.{Headroom}
use Rattle.machine.proofs.Instants.{for_length, for_at, for_again}
use Rattle.machine.proofs.Tokens.{token_of, weigh, weigh_times, tokens}
use Rattle.machine.proofs.OneClass.{Look, mine, other, bytes, All, Terms, Floor, Sending-of, Ground, Rest, Waits, Due, Kept}
use Rattle.machine.proofs.Chain.{Chain, taken_none}
use Rattle.machine.proofs.Both.{Line, free, by_a, by_b, by_best_lem, Behind, BehindBest, Ceilings}
use Rattle.machine.proofs.Invariant.{look_by, look, line_by, line, RowFrame, BestFrame, WireFrame, OnTheWire, own_frames, class_frames, Chained, NoneAfter, terms, GroundOf, KeptOf, Inv, each}
use Rattle.machine.proofs.Fresh.{calm, rest, calm_kept}

-- ---- a class whose terms have grown: its floor by d, its sum by w, and nothing less of the rows that were there
record Wider (x y : Terms) (d w : ℕ) (Old : ℕ → Type 0) : Type 0 where
  pub idle : y.idle ≡ x.idle
  pub send : y.send ≡ x.send
  pub floor : y.floor ≡ x.floor + d
  pub total : y.total ≡ x.total + w
  pub size : (k : ℕ) → Old k → y.size k ≡ x.size k
  pub residence : (k : ℕ) → Old k → x.residence k ≤ y.residence k

raised : (c : ℤ) (u k d : ℕ) → Headroom u c k → Headroom (u + d) c (k + d)
raised (pos n) u k d h = omega arith
raised (negsuc n) u k d h = omega arith

module _ (x y : Terms) (d w : ℕ) (Old : ℕ → Type 0) (g : Wider x y d w Old) where
  floor_grows : (u : ℕ) (m : Look) → Floor x u m → Floor y (u + d) m
  floor_grows u (mine f l) h = rw (g.send, g.floor) (omega arith)
  floor_grows u other h = tt

  sends_grow : (now : ℕ) (m : Look) → Sending-of x now m → Sending-of y now m
  sends_grow now (mine f l) h = record { past = h.past; some = h.some; whole = h.whole; costs = rw (g.send, g.floor) (omega (arith, h.costs)) }
  sends_grow now other h = tt

  ground_grows : (now : ℕ) (c : ℤ) (q : List Frame) (m : Look) (u : ℕ) → Ground x now c q m u → Ground y now c q m (u + d)
  ground_grows now c q m u κ = record { head = rw g.floor (raised c u x.floor d κ.head); floor = floor_grows u m κ.floor; past = κ.past; sends = sends_grow now m κ.sends }

  rest_grows : (u : ℕ) (q : List Frame) (m : Look) → Rest x u q m → Rest y (u + d) q m
  rest_grows u [] other h = rw g.floor (omega arith)
  rest_grows u [] (mine f l) h = tt
  rest_grows u (f ∷ q) m h = tt

  waits_grow : (now u n : ℕ) (q : List Frame) → All (λ f. Old f.source) q → Waits x now u n q → Waits y now (u + d) n q
  waits_grow now u n [] o h = tt
  waits_grow now u n (f ∷ q) o h = (rw (g.idle, g.total, g.size f.source o.0) (omega (arith, h.0)), waits_grow now u (n + f.size) q o.1 h.1)

  abbrev OldLook : Look → Type 0
  OldLook (mine f l) = Old f.source
  OldLook other = Unit {0}

  due_grows : (now : ℕ) (m : Look) → OldLook m → Due x now m → Due y now m
  due_grows now (mine f l) o h = le_trans h (g.residence f.source o)
  due_grows now other o h = tt

  kept_grows : (now tok : ℕ) (q : List Frame) (m : Look) (u : ℕ) → All (λ f. Old f.source) q → OldLook m → Kept x now tok q m u → Kept y now (tok + D * w) q m (u + d)
  kept_grows now tok q m u o p κ = record { rest = rest_grows u q m κ.rest; arrivals = rw g.total (omega (arith, κ.arrivals)); waiting = waits_grow now u (bytes m) q o κ.waiting; due = due_grows now m p κ.due }

-- both classes
module _ (xa xb ya yb : Terms) (da db wa wb : ℕ) (Old : ℕ → Type 0) (ga : Wider xa ya da wa Old) (gb : Wider xb yb db wb Old) (ha ha' lc : ℕ) (more : ha ≤ ha') where
  behind_grows : (ln : Line) (ua : ℕ) → Behind xa xb ha lc ln ua → Behind ya yb ha' lc ln (ua + da)
  behind_grows free ua h = tt
  behind_grows (by_a l) ua h = tt
  behind_grows (by_b z l) ua h = (rw (ga.idle, ga.floor) (omega (arith, h.0)), omega (arith, h.1), h.2)
  behind_grows (by_best_lem z l) ua h = (rw (ga.idle, ga.floor) (omega (arith, h.0)), omega (arith, h.1), h.2)

  behind_best_grows : (ln : Line) (ua ub : ℕ) → BehindBest xa xb ha lc ln ua ub → BehindBest ya yb ha' lc ln (ua + da) (ub + db)
  behind_best_grows free ua ub h = tt
  behind_best_grows (by_a l) ua ub h = h
  behind_best_grows (by_b z l) ua ub h = tt
  behind_best_grows (by_best_lem z l) ua ub h = (rw (ga.send, gb.idle, ga.floor, gb.floor) (omega (arith, h.0)), h.1)

  ceilings_grow : (ln : Line) (ua ub : ℕ) → Ceilings xa xb ha lc ln ua ub → Ceilings ya yb ha' lc ln (ua + da) (ub + db)
  ceilings_grow ln ua ub h =
      record {
        ceiling = rw (ga.idle, ga.floor) (omega (arith, h.ceiling, mul-le-mul_left xa.idle more));
        behind = behind_grows ln ua h.behind;
        potential = rw (ga.send, gb.idle, ga.floor, gb.floor) (omega (arith, h.potential));
        behind_best = behind_best_grows ln ua ub h.behind_best;
      }

-- ---- tokens: an empty number has none, and a row that joins has a whole one
module _ (c : Class) (now : ℕ) where
  weigh_empty : (r : Row) (n : ℕ) → is_there r ≡ false → weigh c r n ≡ 0
  weigh_empty r n e = rw e (go (same_class c r.class))
    where
      go : (b : Bool) → cond (b && false) n 0 ≡ 0
      go true = refl
      go false = refl

  tokens_for : (rs : List Row) (is : List Instant) → tokens c now rs (instants_for rs is) ≡ tokens c now rs is
  unfolding instants_for
  tokens_for [] is = refl
  tokens_for (r ∷ rs) [] = omega (arith, tokens_for rs [])
  tokens_for (r ∷ rs) (i ∷ is) = omega (arith, tokens_for rs is, one (is_there r) refl)
    where
      one : (b : Bool) → is_there r ≡ b → weigh c r (token_of r (cond b i never) now) ≡ weigh c r (token_of r i now)
      one true e = refl
      one false e = omega (arith, weigh_empty r (token_of r never now) e, weigh_empty r (token_of r i now) e)

  tokens_with : (k : ℕ) (r : Row) (rs : List Row) (is : List Instant) → is_there (get_or rs k no_row) ≡ false → tokens c now (rows_with k r rs) (set is k never) ≡ tokens c now rs is + weigh c r (D * size_of r)
  unfolding rows_with
  tokens_with zero r [] [] e = omega arith
  tokens_with zero r [] (i ∷ is) e = omega arith
  tokens_with zero r (x ∷ rs) [] e = omega (arith, weigh_empty x (token_of x never now) e)
  tokens_with zero r (x ∷ rs) (i ∷ is) e = omega (arith, weigh_empty x (token_of x i now) e)
  tokens_with (suc k) r [] [] e = omega (arith, tokens_with k r [] [] e, weigh_empty no_row (token_of no_row never now) table.no_row_there)
  tokens_with (suc k) r [] (i ∷ is) e = omega (arith, tokens_with k r [] is e, weigh_empty no_row (token_of no_row i now) table.no_row_there)
  tokens_with (suc k) r (x ∷ rs) [] e = omega (arith, tokens_with k r rs [] e)
  tokens_with (suc k) r (x ∷ rs) (i ∷ is) e = omega (arith, tokens_with k r rs is e)

-- ---- instants
cleared_none_after : (now k : ℕ) (is : List Instant) → NoneAfter now is → NoneAfter now (set is k never)
cleared_none_after now k [] p = tt
cleared_none_after now zero (never ∷ is) p = p
cleared_none_after now zero (at j ∷ is) p = p.1
cleared_none_after now (suc k) (never ∷ is) p = cleared_none_after now k is p
cleared_none_after now (suc k) (at j ∷ is) p = (p.0, cleared_none_after now k is p.1)

used_none_after : (now : ℕ) (rs : List Row) (is : List Instant) → NoneAfter now is → NoneAfter now (instants_for rs is)
unfolding instants_for
used_none_after now [] is p = tt
used_none_after now (r ∷ rs) [] p = used_none_after now rs [] tt
used_none_after now (r ∷ rs) (never ∷ is) p = let same : cond {A = Instant} (is_there r) never never ≡ never = go (is_there r) in rw same (used_none_after now rs is p)
  where
    go : (b : Bool) → cond {A = Instant} b never never ≡ never
    go true = refl
    go false = refl
used_none_after now (r ∷ rs) (at k ∷ is) p = go (is_there r) (used_none_after now rs is p.1)
  where
    go : (b : Bool) → NoneAfter now (instants_for rs is) → NoneAfter now (cond b (at k) never ∷ instants_for rs is)
    go true h = (p.0, h)
    go false h = h

-- ---- a row joins
module _ (s : State) (u : Class → ℕ) (i : Inv s u) (k : ℕ) (r : Row) (few : k < most_rows) (unused : InUse s.table k → ⊥) (there : is_there r ≡ true) (ok : IsAccepted (with_row k r s.table)) where
  abbrev t : Contents
  t = s.table

  abbrev t' : Contents
  t' = with_row k r t

  less : NoLess t t'
  less = growth.join_raises t k r unused

  idle_same : (c : Class) → idle c t' ≡ idle c t
  unfolding with_row
  idle_same A = refl
  idle_same B = refl

  best_same : best_size t' ≡ best_size t
  unfolding with_row
  best_same = law.best_is t' ∙ sym (law.best_is t)

  -- the rows that were there: those at other numbers
  abbrev Old : ℕ → Type 0
  Old j = j ≡ k → ⊥

  pub d : Class → ℕ
  d c = send c t * largest c t' - send c t * largest c t

  wider : (c : Class) → Wider (terms c t) (terms c t') (d c) (part c size_of r) Old
  unfolding d
  wider c =
      record {
        idle = idle_same c;
        send = ap (λ (n : ℕ). D - n) (idle_same c);
        floor = rw (idle_same c) (omega (arith, mul-le-mul_left (send c t) (less.largest c)));
        total = growth.total_with t k r c unused;
        size = λ j o. ap size_of (table.row_with_other t k r j o);
        residence = λ j o. rw (table.row_with_other t k r j o) (less.residence (row_at t j));
      }

  -- ---- frames: none names the number
  row_old : (c : Class) (f : Frame) → RowFrame c t f → Old f.source
  row_old c f q e = unused (rw e at q.names)

  best_old : (f : Frame) → BestFrame t s.clock f → Old f.source
  best_old f q e = omega (arith, q.mark)

  all_old : (P : Frame → Type 0) → ((f : Frame) → P f → Old f.source) → (q : List Frame) → All P q → All (λ f. Old f.source) q
  all_old P old [] p = tt
  all_old P old (f ∷ q) p = (old f p.0, all_old P old q p.1)

  queue_old : (c : Class) → All (λ f. Old f.source) (queue c s)
  queue_old c = all_old (RowFrame c t) (row_old c) (queue c s) (i.always.frames.rows c)

  abbrev OldWire : Wire → Type 0
  OldWire Free = Unit {0}
  OldWire (Sending f l) = Old f.source

  wire_old : (w : Wire) → OnTheWire t s.clock w → OldWire w
  wire_old Free p = tt
  wire_old (Sending f l) p = go (owner t f) p
    where
      go : (o : Owner) → WireFrame o t s.clock f l → Old f.source
      go (shaped c) q = row_old c f q
      go unshaped q = best_old f q.0

  in_use_same : (j : ℕ) → Old j → in_use t' j ≡ in_use t j
  in_use_same j o = go (in_use t j) (in_use t' j) refl refl
    where
      go : (x y : Bool) → in_use t j ≡ x → in_use t' j ≡ y → y ≡ x
      go true true e f = refl
      go true false e f = absurd (false≢true (sym f ∙ table.used t' j (table.with_still t k r j o (table.is_used t j e))))
      go false true e f = absurd (false≢true (sym e ∙ table.used t j (table.with_before t k r j o (table.is_used t' j f))))
      go false false e f = refl

  owner_same : (f : Frame) → Old f.source → owner t' f ≡ owner t f
  unfolding owner
  owner_same f o = rw (in_use_same f.source o, table.row_with_other t k r f.source o) refl

  look_same : (c : Class) (w : Wire) → OldWire w → look c t' w ≡ look c t w
  look_same c Free o = refl
  look_same c (Sending f l) o = ap (λ (x : Owner). look_by (owns c x) f l) (owner_same f o)

  line_same : (w : Wire) → OldWire w → line t' w ≡ line t w
  line_same Free o = refl
  line_same (Sending f l) o = ap (λ (x : Owner). line_by x f.size l) (owner_same f o)

  on_wire_lem : OldWire s.wire
  on_wire_lem = wire_old s.wire i.always.frames.wire

  row_frame_lem : (c : Class) (f : Frame) → RowFrame c t f → RowFrame c t' f
  row_frame_lem c f q =
      let o = row_old c f q in
      record { names = table.with_still t k r f.source o q.names; class = rw (table.row_with_other t k r f.source o) q.class; least = q.least; most = rw (table.row_with_other t k r f.source o) q.most }

  best_frame_lem : (f : Frame) → BestFrame t s.clock f → BestFrame t' s.clock f
  best_frame_lem f q = record { mark = q.mark; least = q.least; most = rw best_same q.most; past = q.past }

  all_map : (P Q : Frame → Type 0) → ((f : Frame) → P f → Q f) → (q : List Frame) → All P q → All Q q
  all_map P Q h [] p = tt
  all_map P Q h (f ∷ q) p = (h f p.0, all_map P Q h q p.1)

  wire_frame : (w : Wire) → OldWire w → OnTheWire t s.clock w → OnTheWire t' s.clock w
  wire_frame Free o p = tt
  wire_frame (Sending f l) o p = rw (owner_same f o) (go (owner t f) p)
    where
      go : (x : Owner) → WireFrame x t s.clock f l → WireFrame x t' s.clock f l
      go (shaped c) q = row_frame_lem c f q
      go unshaped q = (best_frame_lem f q.0, q.1, q.2)

  -- ---- the port with the row
  abbrev s' : State
  s' = join_row k r s

  abbrev pub v : Class → ℕ
  v c = u c + d c

  class_ground : (c : Class) → Ground (terms c t') s.clock (credit c s) (queue c s) (look c t' s.wire) (v c)
  class_ground c = rw (look_same c s.wire on_wire_lem) (ground_grows (terms c t) (terms c t') (d c) (part c size_of r) Old (wider c) s.clock (credit c s) (queue c s) (look c t s.wire) (u c) (i.always.ground c))

  old_look : (c : Class) (w : Wire) → OldWire w → OldLook (terms c t) (terms c t') (d c) (part c size_of r) Old (wider c) (look c t w)
  old_look c Free o = tt
  old_look c (Sending f l) o = go (owns c (owner t f))
    where
      go : (b : Bool) → OldLook (terms c t) (terms c t') (d c) (part c size_of r) Old (wider c) (look_by b f l)
      go true = o
      go false = tt

  tokens_same : (c : Class) → tokens c s.clock t'.rows (instants_for t'.rows (set s.last k never)) ≡ tokens c s.clock t.rows s.last + D * part c size_of r
  unfolding with_row
  tokens_same c = tokens_for c s.clock (rows_with k r t.rows) (set s.last k never) ∙ omega (arith, tokens_with c s.clock k r t.rows s.last (growth.unused_empty t k unused), weigh_times c r (size_of r))

  class_kept : (c : Class) → Kept (terms c t') s.clock (tokens c s.clock t'.rows (instants_for t'.rows (set s.last k never))) (queue c s) (look c t' s.wire) (v c)
  class_kept c = rw (look_same c s.wire on_wire_lem, tokens_same c) (kept_grows (terms c t) (terms c t') (d c) (part c size_of r) Old (wider c) s.clock _ (queue c s) (look c t s.wire) (u c) (queue_old c) (old_look c s.wire on_wire_lem) (i.timed.kept c))

  -- ---- a row's frames
  own_old : (c : Class) (w : Wire) → OldWire w → All (λ f. Old f.source) (own_frames (look c t w))
  own_old c Free o = tt
  own_old c (Sending f l) o = go (owns c (owner t f))
    where
      go : (b : Bool) → All (λ g. Old g.source) (own_frames (look_by b f l))
      go true = (o, tt)
      go false = tt

  all_both : (fs gs : List Frame) → All (λ f. Old f.source) fs → All (λ f. Old f.source) gs → All (λ f. Old f.source) (fs ++ gs)
  all_both [] gs p q = q
  all_both (f ∷ fs) gs p q = (p.0, all_both fs gs p.1 q)

  last_same : (j : ℕ) → Old j → InUse t' j → get_or (instants_for t'.rows (set s.last k never)) j never ≡ get_or s.last j never
  last_same j o g = for_at t'.rows (set s.last k never) j g.there ∙ get_or-set_other s.last k j never never o

  class_chain : (c : Class) (j : ℕ) → (row_at t j).class ≡ c → Old j → InUse t j → Chain (period_of (row_at t j)) (taken_in j (own_frames (look c t s.wire) ++ queue c s)) (get_or s.last j never)
  class_chain c j e o g = rw (← e) (i.always.chain j g)

  chain_at : (j : ℕ) (b : Bool) → eqb j k ≡ b → InUse t' j → (c : Class) → (row_at t' j).class ≡ c → Chain (period_of (row_at t' j)) (taken_in j (own_frames (look c t' s.wire) ++ queue c s)) (get_or (instants_for t'.rows (set s.last k never)) j never)
  chain_at j true e g c q =
      rw (look_same c s.wire on_wire_lem, eqb-true j k e, taken_none k (own_frames (look c t s.wire) ++ queue c s) (all_both (own_frames (look c t s.wire)) (queue c s) (own_old c s.wire on_wire_lem) (queue_old c)))
      tt
  chain_at j false e g c q =
      let o = eqb-false j k e in
      rw (look_same c s.wire on_wire_lem, last_same j o g, table.row_with_other t k r j o)
      (class_chain c j (ap (λ (x : Row). x.class) (sym (table.row_with_other t k r j o)) ∙ q) o (table.with_before t k r j o g))

  chained : Chained s'
  unfolding join_row
  chained j g = by (row_at t' j).class refl
    where
      by : (c : Class) → (row_at t' j).class ≡ c → Chain (period_of (row_at t' j)) (taken_in j (class_frames c s')) (get_or s'.last j never)
      by A q = chain_at j (eqb j k) refl g A q
      by B q = chain_at j (eqb j k) refl g B q

  -- ---- the count
  top : InUse t' (length t'.rows - 1)
  unfolding with_row
  top = go (ltb k (length t.rows)) refl
    where
      n : length (rows_with k r t.rows) ≡ max (length t.rows) (suc k)
      n = table.with_length k r t.rows

      go : (b : Bool) → ltb k (length t.rows) ≡ b → InUse t' (length (rows_with k r t.rows) - 1)
      go true e =
          let same : length (rows_with k r t.rows) - 1 ≡ length t.rows - 1 = omega (arith, n, ltb-true k (length t.rows) e) in
          rw same (table.with_still t k r (length t.rows - 1) (λ z. unused (rw z at i.always.count)) i.always.count)
      go false e =
          let same : length (rows_with k r t.rows) - 1 ≡ k = omega (arith, n, ltb-false k (length t.rows) e) in
          rw same (table.with_used t k r there)

  pub joins : Inv s' v
  unfolding join_row
  joins =
      record {
        always =
            record {
              accepted = ok;
              count = top;
              bounds = refl;
              clock = i.always.clock;
              ground = each (λ c. GroundOf c s' (v c)) (class_ground A) (class_ground B);
              frames =
                  record {
                    rows = each (λ c. All (RowFrame c t') (queue c s')) (all_map (RowFrame A t) (RowFrame A t') (row_frame_lem A) s.a (i.always.frames.rows A)) (all_map (RowFrame B t) (RowFrame B t') (row_frame_lem B) s.b (i.always.frames.rows B));
                    best = all_map (BestFrame t s.clock) (BestFrame t' s.clock) best_frame_lem s.best i.always.frames.best;
                    few = i.always.frames.few;
                    wire = wire_frame s.wire on_wire_lem i.always.frames.wire;
                  };
              instants = record { lasts = for_length t'.rows (set s.last k never); in_use_lem = for_again t'.rows (set s.last k never); none_after_lem = used_none_after s.clock t'.rows (set s.last k never) (cleared_none_after s.clock k s.last i.always.instants.none_after_lem) };
              chain = chained;
            };
        timed =
            record {
              kept = each (λ c. KeptOf c s' (v c)) (class_kept A) (class_kept B);
              ceilings = rw (line_same s.wire on_wire_lem, best_same) (ceilings_grow (terms A t) (terms B t) (terms A t') (terms B t') (d A) (d B) (part A size_of r) (part B size_of r) Old (wider A) (wider B) (blocking A t) (blocking A t') (best_size t) (less.blocking A) (line t s.wire) (u A) (u B) i.timed.ceilings);
            };
      }

-- ---- a row leaves
pub no_frame_lem : (q : List Frame) → none_in q ≡ true → q ≡ []
no_frame_lem [] e = refl
no_frame_lem (f ∷ q) e = absurd (false≢true e)

pub no_sender : (w : Wire) → is_free w ≡ true → w ≡ Free
no_sender Free e = refl
no_sender (Sending f l) e = absurd (false≢true e)

no_credit : (z : ℤ) → is_zero z ≡ true → z ≡ pos 0
no_credit (pos n) e = ap pos (eqb-true n 0 e)
no_credit (negsuc n) e = absurd (false≢true e)

pub leaves : (s : State) (u : Class → ℕ) → Inv s u → (k : ℕ) → quiet s ≡ true → IsAccepted (without_row k s.table) → Inv (leave_row k s) (rest (without_row k s.table))
unfolding leave_row quiet
leaves s u i k q ok =
    let p = table.and-true _ _ q in
    let frames = table.and-true _ _ p.0 in
    let others = table.and-true _ _ frames.1 in
    let wire = table.and-true _ _ p.1 in
    let credits = table.and-true _ _ wire.1 in
    let a = no_frame_lem s.a frames.0 in
    let b = no_frame_lem s.b others.0 in
    let best = no_frame_lem s.best others.1 in
    let w = no_sender s.wire wire.0 in
    let ca = no_credit s.credita credits.0 in
    let cb = no_credit s.creditb credits.1 in
    let t = without_row k s.table in
    let same : leave_row k s ≡ calm t (bounds_of t) s.clock (instants_for t.rows s.last) =
    λ j. record { table = t; bounds = bounds_of t; clock = s.clock; credita = ca j; creditb = cb j; a = a j; b = b j; best = best j; last = instants_for t.rows s.last; wire = w j } in
    subst (λ (x : State). Inv x (rest t)) (sym same)
    (calm_kept t ok (bounds_of t) s.clock (instants_for t.rows s.last) i.always.clock (table.without_count s.table k ok.ranges.some) refl (for_again t.rows s.last) (used_none_after s.clock t.rows s.last i.always.instants.none_after_lem))
