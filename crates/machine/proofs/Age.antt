-- Whatever is in the port is younger than its residence, and what has not been reported is younger than its bound: a waiting frame by line 8 and the ceiling, a frame on
-- the wire by line 9. So a row has no more frames than it may have: they are a period apart, and the oldest is young.
use Prim.Native.Nat.{ℕ, zero, suc, ◌+◌, ◌-◌, ◌*◌, ◌≤◌, ◌<◌}
use mathlib.Core.Bool.{Bool, true, false}
use mathlib.Core.List.{List, [], ◌∷◌, ◌++◌}
use mathlib.Core.Path.{◌≡◌, refl}
use native.Mathlib.Omega.{arith}
use lib.ListN.{length, get_or}
use Rattle.table.specs.declared.Class.{Class}
use Rattle.table.specs.Limits.{D, left_at_report}
use Rattle.table.specs.Wire.{size_of, period_of}
use Rattle.table.specs.Rows.{Contents, row_at, same_class, InUse}
use Rattle.table.proofs.Laws as table
use Rattle.planner.specs.Sums.{largest, idle, send}
use Rattle.planner.specs.Bound.{blocking, residence, most_of}
use Rattle.planner.specs.Opening.{IsAccepted}
use Rattle.planner.proofs.Laws as law
use Rattle.machine.specs.declared.Frame.{Frame}
use Rattle.machine.specs.declared.Wire.{Wire}
use Rattle.machine.specs.declared.Wire.TheVariants.{Free, Sending}
use Rattle.machine.specs.State.{Instant, never, at, State, queue}
use Rattle.machine.specs.Time.{Owner, shaped, unshaped, owner, owns}
use Rattle.machine.proofs.OneClass.{bytes, All, Waits}
use Rattle.machine.proofs.Spaced.{EachInstant}
use Rattle.machine.proofs.Chain.{Chain, chain_spans, taken_each}
use Rattle.machine.proofs.Invariant.{look_by, look, line, RowFrame, WireFrame, OnTheWire, own_frames, class_frames, row_instants, NoneAfter, terms, Inv, row_bounded, ceiling, named_owner}
use Rattle.machine.proofs.Byte.{row_sends, row_due}

-- a row's frame, of whichever class: young, and not taken after the clock
pub record Young (t : Contents) (now : ℕ) (f : Frame) : Type 0 where
  pub names : InUse t f.source
  pub past : f.taken ≤ now
  pub young : now - f.taken < residence t (row_at t f.source)

abbrev pub YoungBy : Owner → Contents → ℕ → Frame → Type 0
YoungBy (shaped c) t now f = Young t now f
YoungBy unshaped t now f = Unit {0}

abbrev pub YoungOn : Contents → ℕ → Wire → Type 0
YoungOn t now Free = Unit {0}
YoungOn t now (Sending f l) = YoungBy (owner t f) t now f

-- a frame that is still to be reported in time
pub record Soon (t : Contents) (now : ℕ) (f : Frame) : Type 0 where
  pub past : f.taken ≤ now
  pub soon : (now - f.taken) + left_at_report < residence t (row_at t f.source)

module _ (t : Contents) (ok : IsAccepted t) (c : Class) (now : ℕ) (u : ℕ) (top : u ≤ idle c t * blocking c t + send c t * largest c t) where
  -- a waiting frame has its whole size before it
  waiting_age : (n : ℕ) (f : Frame) → RowFrame c t f → idle c t * (now - f.taken) + D * n + D * size_of (row_at t f.source) ≤ u + D * (terms c t).total → (now - f.taken) + size_of (row_at t f.source) ≤ residence t (row_at t f.source)
  waiting_age n f row w = row_bounded t ok c f row (now - f.taken) (omega arith)

  waiting_young : (n : ℕ) (q : List Frame) → All (RowFrame c t) q → All (λ f. f.taken ≤ now) q → Waits (terms c t) now u n q → All (Young t now) q
  waiting_young n [] rows past w = tt
  waiting_young n (f ∷ q) rows past w = (
    record { names = rows.0.names; past = past.0; young = omega (arith, waiting_age n f rows.0 w.0, table.size_least (row_at t f.source)) },
    waiting_young (n + f.size) q rows.1 past.1 w.1,
  )

  waiting_soon : (n : ℕ) (q : List Frame) → All (RowFrame c t) q → All (λ f. f.taken ≤ now) q → Waits (terms c t) now u n q → All (Soon t now) q
  waiting_soon n [] rows past w = tt
  waiting_soon n (f ∷ q) rows past w = (record { past = past.0; soon = omega (arith, waiting_age n f rows.0 w.0, table.size_least (row_at t f.source)) }, waiting_soon (n + f.size) q rows.1 past.1 w.1)

module _ (s : State) (u : Class → ℕ) (i : Inv s u) where
  top : (c : Class) → u c ≤ idle c s.table * blocking c s.table + send c s.table * largest c s.table
  top c = ceiling s.table i.always.accepted (line s.table s.wire) u i.timed.ceilings c

  by_owner : (f : Frame) (l : ℕ) → s.wire ≡ Sending f l → (o : Owner) → owner s.table f ≡ o → WireFrame o s.table s.clock f l → YoungBy o s.table s.clock f
  by_owner f l w (shaped c) own r = let m = row_sends s u i f l w c own in record { names = r.names; past = m.past; young = omega (arith, m.some, row_due s u i f l w c own) }
  by_owner f l w unshaped own r = tt

  on_wire_lem : (w : Wire) → s.wire ≡ w → OnTheWire s.table s.clock w → YoungOn s.table s.clock w
  on_wire_lem Free e r = tt
  on_wire_lem (Sending f l) e r = by_owner f l e (owner s.table f) refl r

  pub queues_young : (c : Class) → All (Young s.table s.clock) (queue c s)
  queues_young c = waiting_young s.table i.always.accepted c s.clock (u c) (top c) (bytes (look c s.table s.wire)) (queue c s) (i.always.frames.rows c) (i.always.ground c).past (i.timed.kept c).waiting

  pub wire_young : YoungOn s.table s.clock s.wire
  wire_young = on_wire_lem s.wire refl i.always.frames.wire

  pub queues_soon : (c : Class) → All (Soon s.table s.clock) (queue c s)
  queues_soon c = waiting_soon s.table i.always.accepted c s.clock (u c) (top c) (bytes (look c s.table s.wire)) (queue c s) (i.always.frames.rows c) (i.always.ground c).past (i.timed.kept c).waiting

  pub wire_soon : (f : Frame) (l : ℕ) → s.wire ≡ Sending f l → left_at_report < l → InUse s.table f.source → Soon s.table s.clock f
  wire_soon f l w some h =
      let own = named_owner s.table f h in
      let c = (row_at s.table f.source).class in
      record { past = (row_sends s u i f l w c own).past; soon = omega (arith, row_due s u i f l w c own) }

-- ---- how many frames of a row are in the port
own_young : (c : Class) (t : Contents) (now : ℕ) (w : Wire) → YoungOn t now w → All (Young t now) (own_frames (look c t w))
own_young c t now Free y = tt
own_young c t now (Sending f l) y = go (owner t f) y
  where
    by : (b : Bool) → Young t now f → All (Young t now) (own_frames (look_by b f l))
    by true y = (y, tt)
    by false y = tt

    go : (o : Owner) → YoungBy o t now f → All (Young t now) (own_frames (look_by (owns c o) f l))
    go (shaped d) y = by (same_class c d) y
    go unshaped y = tt

pub all_both : (P : Frame → Type 0) (fs gs : List Frame) → All P fs → All P gs → All P (fs ++ gs)
all_both P [] gs p q = q
all_both P (f ∷ fs) gs p q = (p.0, all_both P fs gs p.1 q)

young_ages : (t : Contents) (now k : ℕ) (fs : List Frame) → All (Young t now) fs → All (λ f. f.source ≡ k → now - f.taken < residence t (row_at t k)) fs
young_ages t now k [] y = tt
young_ages t now k (f ∷ fs) y = ((λ e. rw e at y.0.young), young_ages t now k fs y.1)

not_after_lem : (now k j : ℕ) (is : List Instant) → NoneAfter now is → get_or is k never ≡ at j → j ≤ now
not_after_lem now k j [] p e = let z : ◌≡◌ {A = ℕ} 0 1 = cc in absurd (omega arith)
not_after_lem now zero j (never ∷ is) p e = let z : ◌≡◌ {A = ℕ} 0 1 = cc in absurd (omega arith)
not_after_lem now zero j (at x ∷ is) p e = let same : x ≡ j = cc in omega (arith, p.0)
not_after_lem now (suc k) j (never ∷ is) p e = not_after_lem now k j is p e
not_after_lem now (suc k) j (at x ∷ is) p e = not_after_lem now k j is p.1 e

module _ (s : State) (u : Class → ℕ) (i : Inv s u) (k : ℕ) (h : InUse s.table k) where
  abbrev of_row_lem : Class
  of_row_lem = (row_at s.table k).class

  ages : EachInstant (λ x. s.clock - x < residence s.table (row_at s.table k)) (row_instants k s)
  ages =
      taken_each _ k (class_frames of_row_lem s)
      (young_ages s.table s.clock k (class_frames of_row_lem s) (all_both _ (own_frames (look of_row_lem s.table s.wire)) (queue of_row_lem s) (own_young of_row_lem s.table s.clock s.wire (wire_young s u i)) (queues_young s u i of_row_lem)))

  -- k frames span k − 1 periods, and the oldest is young
  few_of : (xs : List ℕ) → Chain (period_of (row_at s.table k)) xs (get_or s.last k never) → EachInstant (λ x. s.clock - x < residence s.table (row_at s.table k)) xs → length xs ≤ most_of s.table (row_at s.table k)
  few_of [] c a = omega arith
  few_of (x ∷ xs) c a =
      let sp = chain_spans (period_of (row_at s.table k)) (get_or s.last k never) x xs c in
      let past = not_after_lem s.clock k sp.0 s.last i.always.instants.none_after_lem sp.1 in
      law.most_above s.table i.always.accepted k h (length xs) (omega (arith, sp.2, a.0))

  pub few_frames : length (row_instants k s) ≤ most_of s.table (row_at s.table k)
  few_frames = few_of (row_instants k s) (i.always.chain k h) ages
