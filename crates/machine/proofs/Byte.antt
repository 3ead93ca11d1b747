-- A byte passes: steps 2, 3 and 4 keep the invariant, and a row's frame that is reported is so within its bound.
use Rattle.std.specs.Prelude.{Some, None}
use Prim.Native.Nat.{ℕ, zero, suc, ◌+◌, ◌-◌, ◌*◌, ◌≤◌, ◌<◌}
use mathlib.Core.Bool.{Bool, true, false, cond}
use mathlib.Core.List.{List, [], ◌∷◌, ◌++◌}
use mathlib.Core.Path.{◌≡◌, refl, subst}
use native.Mathlib.Omega.{arith}
use lib.IntN.{ℤ}
use lib.Dec.{eqb}
use lib.ListN.{get_or}
use borrow.Author.Tests.{eqb-true}
use Rattle.table.specs.declared.Class.{Class}
use Rattle.table.specs.declared.Class.TheVariants.{A, B}
use Rattle.table.specs.Limits.{D, left_at_report}
use Rattle.table.specs.Wire.{period_of}
use Rattle.table.specs.Rows.{Contents, row_at, InUse}
use Rattle.planner.specs.Sums.{total, idle, send, best_size}
use Rattle.planner.specs.Bound.{blocking, residence, bound}
use Rattle.planner.specs.Opening.{IsAccepted}
use Rattle.planner.proofs.Laws as law
use Rattle.machine.specs.declared.Frame.{Frame}
use Rattle.machine.specs.declared.Wire.{Wire}
use Rattle.machine.specs.declared.Wire.TheVariants.{Free, Sending}
use Rattle.machine.specs.Limits.{last_clock}
use Rattle.machine.specs.State.{Instant, never, at, State, credit, queue}
use Rattle.machine.specs.Time.{Owner, shaped, unshaped, owner, owns, on_wire, earned, earn, pass, settled, settle, wire_after, reported_in}
use Rattle.machine.specs.Record.{taken_in}
use Rattle.machine.proofs.Tokens.{tokens, tokens_most, tokens_rise}
use Rattle.machine.proofs.OneClass.{Look, mine, other, next, All, Ground, Kept, Shift, Sends, Sending-of, Due, pays, earns, byte_grounds}
use Rattle.machine.proofs.OneClass as one
use Rattle.machine.proofs.Chain.{Chain, oldest_gone}
use Rattle.machine.proofs.Both.{ShiftA, ShiftB}
use Rattle.machine.proofs.Both as both
use Rattle.machine.proofs.Invariant.{look_by, look, line_by, line, RowFrame, BestFrame, WireFrame, OnTheWire, own_frames, class_frames, NoneAfter, terms, GroundOf, KeptOf, Always, Timed, Inv, Holds, each, named_owner, look_is, look_next, line_next, room}
use Rattle.machine.proofs.Start.{Started}

module _ (t : Contents) (ok : IsAccepted t) where
  tokens_up : (c : Class) (now : ℕ) (last : List Instant) → tokens c (suc now) t.rows last ≤ tokens c now t.rows last + idle c t
  tokens_up c now last = omega (arith, tokens_rise c now t.rows last, law.shares_within t ok c, law.shares_sum c t)

  tokens_full : (c : Class) (now : ℕ) (last : List Instant) → tokens c now t.rows last ≤ D * total c t
  tokens_full c now last = omega (arith, tokens_most c now t.rows last, law.total_sum c t)

-- ---- a class over a byte-time, in the machine's own terms
abbrev after : Class → State → ℤ
after c s = settled (on_wire c s.table (wire_after s.wire)) (queue c s) (earned (on_wire c s.table s.wire) (queue c s) (idle c s.table) (send c s.table) (credit c s))

record Class-moved (c : Class) (s : State) (u : ℕ) : Type 0 where
  pub room : ℕ
  pub ground : Ground (terms c s.table) (suc s.clock) (after c s) (queue c s) (look c s.table (wire_after s.wire)) room
  pub shift : Shift (terms c s.table) (look c s.table s.wire) (queue c s) u room

class_moves : (c : Class) (s : State) (u : ℕ) → GroundOf c s u → Class-moved c s u
class_moves c s u g =
    let m = byte_grounds (terms c s.table) s.clock (credit c s) (queue c s) (look c s.table s.wire) u g in
    record { room = m.room; ground = rw (← look_is c s.table (wire_after s.wire), ← look_is c s.table s.wire, ← look_next c s.table s.wire) m.ground; shift = m.shift }

-- ---- both classes
module _ (t : Contents) (ok : IsAccepted t) where
  shift_a : (w : Wire) (q : List Frame) (u v : ℕ) → Shift (terms A t) (look A t w) q u v → ShiftA (terms A t) (terms B t) (blocking A t) (best_size t) (line t w) u v
  shift_a Free q u v h = earns (terms A t) q u v h
  shift_a (Sending f l) q u v h = go (owner t f) h
    where
      go : (o : Owner) → Shift (terms A t) (look_by (owns A o) f l) q u v → ShiftA (terms A t) (terms B t) (blocking A t) (best_size t) (line_by o f.size l) u v
      go (shaped A) h = pays (terms A t) f l q u v h
      go (shaped B) h = earns (terms A t) q u v h
      go unshaped h = earns (terms A t) q u v h

  shift_b : (w : Wire) (q : List Frame) (u v : ℕ) → Shift (terms B t) (look B t w) q u v → ShiftB (terms A t) (terms B t) (blocking A t) (best_size t) (line t w) u v
  shift_b Free q u v h = earns (terms B t) q u v h
  shift_b (Sending f l) q u v h = go (owner t f) h
    where
      go : (o : Owner) → Shift (terms B t) (look_by (owns B o) f l) q u v → ShiftB (terms A t) (terms B t) (blocking A t) (best_size t) (line_by o f.size l) u v
      go (shaped A) h = earns (terms B t) q u v h
      go (shaped B) h = pays (terms B t) f l q u v h
      go unshaped h = earns (terms B t) q u v h

-- ---- frames, a byte-time later
best_later : (t : Contents) (now : ℕ) (q : List Frame) → All (BestFrame t now) q → All (BestFrame t (suc now)) q
best_later t now [] p = tt
best_later t now (f ∷ q) p = (record { mark = p.0.mark; least = p.0.least; most = p.0.most; past = omega (arith, p.0.past) }, best_later t now q p.1)

later : (now : ℕ) (is : List Instant) → NoneAfter now is → NoneAfter (suc now) is
later now [] p = tt
later now (never ∷ is) p = later now is p
later now (at k ∷ is) p = (omega (arith, p.0), later now is p.1)

wire_later : (t : Contents) (now : ℕ) (w : Wire) → OnTheWire t now w → OnTheWire t (suc now) (wire_after w)
wire_later t now Free p = tt
wire_later t now (Sending f zero) p = tt
wire_later t now (Sending f (suc zero)) p = tt
wire_later t now (Sending f (suc (suc l))) p = go (owner t f) p
  where
    go : (o : Owner) → WireFrame o t now f (suc (suc l)) → WireFrame o t (suc now) f (suc l)
    go (shaped c) r = r
    go unshaped r = (record { mark = r.0.mark; least = r.0.least; most = r.0.most; past = omega (arith, r.0.past) }, omega arith, omega (arith, r.2))

-- the frame on the wire, a row's oldest, stays or is gone
chain_later : (p : ℕ) (i : Instant) (k : ℕ) (x : Look) (q : List Frame) → Chain p (taken_in k (own_frames x ++ q)) i → Chain p (taken_in k (own_frames (next x) ++ q)) i
chain_later p i k (mine f zero) q h = oldest_gone p i k f q h
chain_later p i k (mine f (suc zero)) q h = oldest_gone p i k f q h
chain_later p i k (mine f (suc (suc l))) q h = h
chain_later p i k other q h = h

-- ---- steps 2, 3 and 4
module _ (s : State) (u : Class → ℕ) (st : Started s u) where
  abbrev passed : State
  passed = settle (pass (earn s))

  moved : (c : Class) → Class-moved c s (u c)
  moved c = class_moves c s (u c) (st.inv.always.ground c)

  abbrev v : Class → ℕ
  v c = (moved c).room

  class_chain : (c : Class) (k : ℕ) → Chain (period_of (row_at s.table k)) (taken_in k (class_frames c s)) (get_or s.last k never) → Chain (period_of (row_at s.table k)) (taken_in k (class_frames c passed)) (get_or s.last k never)
  class_chain A k h = rw (← look_next A s.table s.wire) (chain_later (period_of (row_at s.table k)) (get_or s.last k never) k (look A s.table s.wire) s.a h)
  class_chain B k h = rw (← look_next B s.table s.wire) (chain_later (period_of (row_at s.table k)) (get_or s.last k never) k (look B s.table s.wire) s.b h)

  byte_always : s.clock < last_clock → Always passed v
  byte_always h =
      let p = st.inv.always in
      record {
        accepted = p.accepted;
        count = p.count;
        bounds = p.bounds;
        clock = h;
        ground = each (λ c. GroundOf c passed (v c)) (moved A).ground (moved B).ground;
        frames = record { rows = each (λ c. All (RowFrame c s.table) (queue c passed)) (p.frames.rows A) (p.frames.rows B); best = best_later s.table s.clock s.best p.frames.best; few = p.frames.few; wire = wire_later s.table s.clock s.wire p.frames.wire };
        instants = record { lasts = p.instants.lasts; in_use_lem = p.instants.in_use_lem; none_after_lem = later s.clock s.last p.instants.none_after_lem };
        chain = λ k g. class_chain (row_at s.table k).class k (p.chain k g);
      }

  class_kept : (c : Class) → Kept (terms c s.table) (suc s.clock) (tokens c (suc s.clock) s.table.rows s.last) (queue c s) (look c s.table (wire_after s.wire)) (v c)
  class_kept c =
      let ok = st.inv.always.accepted in
      rw (← look_next c s.table s.wire)
      (one.byte_passes (terms c s.table) (law.idle_send s.table ok c) s.clock _ _ (tokens_up s.table ok c s.clock s.last) (tokens_full s.table ok c (suc s.clock) s.last) (credit c s) (queue c s) (look c s.table s.wire) (u c) (v c) (st.inv.always.ground c) (moved c).shift (st.inv.timed.kept c))

  byte_timed : Timed passed v
  byte_timed =
      let ok = st.inv.always.accepted in
      record {
        kept = each (λ c. KeptOf c passed (v c)) (class_kept A) (class_kept B);
        ceilings =
            rw (← line_next s.table s.wire)
            (both.byte_passes (terms A s.table) (terms B s.table) (blocking A s.table) (best_size s.table) (room s.table ok) (line s.table s.wire) (u A) (u B) (v A) (v B) st.inv.timed.ceilings st.idle (shift_a s.table ok s.wire s.a (u A) (v A) (moved A).shift) (shift_b s.table ok s.wire s.b (u B) (v B) (moved B).shift));
      }

  pub byte_keeps : s.clock < last_clock → Holds passed
  byte_keeps h = record { u = v; inv = record { always = byte_always h; timed = byte_timed } }

-- ---- line 9 at the report: a row's frame that is reported is no older than its bound
pub reported_frame : (w : Wire) (f : Frame) → reported_in w ≡ Some f → w ≡ Sending f (suc left_at_report)
unfolding reported_in
reported_frame Free f e = let z : ◌≡◌ {A = ℕ} 0 1 = cc in absurd (omega arith)
reported_frame (Sending g l) f e = go (eqb l (suc left_at_report)) refl e
  where
    go : (b : Bool) → eqb l (suc left_at_report) ≡ b → cond b (Some g) None ≡ Some f → Sending g l ≡ Sending f (suc left_at_report)
    go true q p = let same : g ≡ f = cc in rw (same, eqb-true l (suc left_at_report) q) refl
    go false q p = let z : ◌≡◌ {A = ℕ} 0 1 = cc in absurd (omega arith)

module _ (s : State) (u : Class → ℕ) (i : Inv s u) (f : Frame) (l : ℕ) (w : s.wire ≡ Sending f l) where
  sends_look : (c : Class) → owner s.table f ≡ shaped c → Sending-of (terms c s.table) s.clock (look_by (owns c (shaped c)) f l)
  sends_look c own = subst (λ (o : Owner). Sending-of (terms c s.table) s.clock (look_by (owns c o) f l)) own (subst (λ (x : Wire). Sending-of (terms c s.table) s.clock (look c s.table x)) w (i.always.ground c).sends)

  due_look : (c : Class) → owner s.table f ≡ shaped c → Due (terms c s.table) s.clock (look_by (owns c (shaped c)) f l)
  due_look c own = subst (λ (o : Owner). Due (terms c s.table) s.clock (look_by (owns c o) f l)) own (subst (λ (x : Wire). Due (terms c s.table) s.clock (look c s.table x)) w (i.timed.kept c).due)

  -- what holds of a row's frame on the wire
  pub row_sends : (c : Class) → owner s.table f ≡ shaped c → Sends (terms c s.table) s.clock f l
  row_sends A own = sends_look A own
  row_sends B own = sends_look B own

  pub row_due : (c : Class) → owner s.table f ≡ shaped c → (s.clock - f.taken) + l ≤ residence s.table (row_at s.table f.source)
  row_due A own = due_look A own
  row_due B own = due_look B own

pub ends_in_time : (s : State) (u : Class → ℕ) → Inv s u → (f : Frame) → reported_in s.wire ≡ Some f → InUse s.table f.source → suc s.clock ≤ f.taken + bound s.table (row_at s.table f.source)
ends_in_time s u i f e h =
    let w = reported_frame s.wire f e in
    let own = named_owner s.table f h in
    let r = row_sends s u i f (suc left_at_report) w (row_at s.table f.source).class own in
    omega (arith, r.past, row_due s u i f (suc left_at_report) w (row_at s.table f.source).class own, law.bound_report s.table (row_at s.table f.source))
