-- A frame starts, or none: step 1 keeps the invariant, and leaves a free wire only where no class has credit above 0.
use Prim.Native.Nat.{ℕ, ◌*◌, ◌≤◌}
use mathlib.Core.Bool.{Bool, true, false, cond}
use mathlib.Core.List.{List, [], ◌∷◌, ◌++◌}
use mathlib.Core.Path.{◌≡◌, refl, sym, subst, subst⁻¹}
use native.Mathlib.Nat.{le_trans}
use native.Mathlib.Omega.{arith}
use lib.IntN.{ℤ, pos, negsuc}
use lib.ListN.{get_or}
use Rattle.table.specs.declared.Class.{Class}
use Rattle.table.specs.declared.Class.TheVariants.{A, B}
use Rattle.table.specs.Wire.{period_of}
use Rattle.table.specs.Rows.{Contents, row_at, same_class}
use Rattle.planner.specs.Sums.{largest, idle, send, best_size}
use Rattle.planner.specs.Bound.{blocking}
use Rattle.planner.specs.Opening.{IsAccepted}
use Rattle.planner.proofs.Laws as law
use Rattle.machine.specs.declared.Frame.{Frame}
use Rattle.machine.specs.declared.Wire.{Wire}
use Rattle.machine.specs.declared.Wire.TheVariants.{Free, Sending}
use Rattle.machine.specs.State.{never, State, credit, queue, instead, with_queue, with_best, with_wire}
use Rattle.machine.specs.Time.{Owner, shaped, unshaped, owner, ready, head_out, behind_head, send_of, send_best, start_on, start}
use Rattle.machine.specs.Record.{taken_in}
use Rattle.machine.proofs.Tokens.{tokens}
use Rattle.machine.proofs.Chain.{Chain}
use Rattle.machine.proofs.OneClass.{other, mine, All, Ground, Kept, head_grounds, head_goes, head_stays}
use Rattle.machine.proofs.Both.{free, starts_a, starts_b, starts_best}
use Rattle.machine.proofs.Invariant.{look_by, look, line, line_by, RowFrame, BestFrame, own_frames, class_frames, Chained, terms, GroundOf, KeptOf, Ceiled, Idled, Frames, Inv, each, row_owner, best_owner, row_within, row_costs, row_bounded, room, ceiling}

-- what a start leaves
pub record Started (s : State) (u : Class → ℕ) : Type 0 where
  pub inv : Inv s u
  pub idle : Idled s.table (line s.table s.wire) u

never_empty : (c : ℤ) → ready c [] ≡ true → ⊥
never_empty (pos n) e = let z : ◌≡◌ {A = ℕ} 0 1 = cc in omega arith
never_empty (negsuc n) e = let z : ◌≡◌ {A = ℕ} 0 1 = cc in omega arith

busy : (t : Contents) (f : Frame) (l : ℕ) (u : Class → ℕ) → Idled t (line t (Sending f l)) u
busy t f l u = go (owner t f)
  where
    go : (o : Owner) → Idled t (line_by o f.size l) u
    go (shaped A) = tt
    go (shaped B) = tt
    go unshaped = tt

module _ (s : State) (u : Class → ℕ) (i : Inv s u) (no_frame_lem : s.wire ≡ Free) where
  ok : IsAccepted s.table
  ok = i.always.accepted

  ground : (c : Class) → Ground (terms c s.table) s.clock (credit c s) (queue c s) other (u c)
  ground c = subst (λ (w : Wire). Ground (terms c s.table) s.clock (credit c s) (queue c s) (look c s.table w) (u c)) no_frame_lem (i.always.ground c)

  kept : (c : Class) → Kept (terms c s.table) s.clock (tokens c s.clock s.table.rows s.last) (queue c s) other (u c)
  kept c = subst (λ (w : Wire). Kept (terms c s.table) s.clock (tokens c s.clock s.table.rows s.last) (queue c s) (look c s.table w) (u c)) no_frame_lem (i.timed.kept c)

  ceilings : Ceiled s.table free u
  ceilings = rw no_frame_lem at i.timed.ceilings

  -- a class whose head does not go out has no credit above 0
  stays : (c : Class) → ready (credit c s) (queue c s) ≡ false → u c ≤ send c s.table * largest c s.table
  stays c r = head_stays (terms c s.table) s.clock _ (credit c s) (queue c s) (u c) (ground c) (kept c) r

  -- a class's frames in the port all wait
  all_wait : (d : Class) → class_frames d s ≡ queue d s
  all_wait d = rw no_frame_lem refl

  -- who has the wire next, each class has its frames in the same order
  chain_after : (r : State) → r.table ≡ s.table → r.last ≡ s.last → ((d : Class) → class_frames d r ≡ queue d s) → Chained r
  chain_after r et el same k h =
      subst (λ (fs : List Frame). Chain (period_of (row_at r.table k)) (taken_in k fs) (get_or r.last k never)) (sym (same (row_at r.table k).class))
      (rw (et, el) (rw (all_wait (row_at s.table k).class) at (i.always.chain k (rw et at h))))

  -- ---- the head of class c goes out
  module _ (c : Class) (f : Frame) (q : List Frame) (e : queue c s ≡ f ∷ q) (r : ready (credit c s) (f ∷ q) ≡ true) where
    row : RowFrame c s.table f
    row = (rw e at (i.always.frames.rows c)).0

    abbrev sent : State
    sent = with_wire (Sending f f.size) (with_queue c q s)

    -- the class itself
    goes_ground : Ground (terms c s.table) s.clock (credit c s) q (mine f f.size) (u c)
    goes_ground = head_grounds (terms c s.table) s.clock (credit c s) f q (u c) (rw e at (ground c)) r (omega (arith, row.least)) (row_costs s.table ok c f row)

    goes_kept : Kept (terms c s.table) s.clock (tokens c s.clock s.table.rows s.last) q (mine f f.size) (u c)
    goes_kept = head_goes (terms c s.table) (idle c s.table * blocking c s.table) s.clock _ f q (u c) (row_bounded s.table ok c f row) (rw e at (kept c)) (ceiling s.table ok free u ceilings c) row.most

    -- what holds of each waiting frame
    behind : (P : Frame → Type 0) → All P (queue c s) → All P q
    behind P p = (rw e at p).1

  -- either class
  ground_after : (c d : Class) (f : Frame) (q : List Frame) → queue c s ≡ f ∷ q → ready (credit c s) (f ∷ q) ≡ true → Ground (terms d s.table) s.clock (credit d s) (instead c d q (queue d s)) (look_by (same_class d c) f f.size) (u d)
  ground_after A A f q e r = goes_ground A f q e r
  ground_after A B f q e r = ground B
  ground_after B A f q e r = ground A
  ground_after B B f q e r = goes_ground B f q e r

  kept_after : (c d : Class) (f : Frame) (q : List Frame) → queue c s ≡ f ∷ q → ready (credit c s) (f ∷ q) ≡ true → Kept (terms d s.table) s.clock (tokens d s.clock s.table.rows s.last) (instead c d q (queue d s)) (look_by (same_class d c) f f.size) (u d)
  kept_after A A f q e r = goes_kept A f q e r
  kept_after A B f q e r = kept B
  kept_after B A f q e r = kept A
  kept_after B B f q e r = goes_kept B f q e r

  all_after : (P : Class → Frame → Type 0) (c d : Class) (f : Frame) (q : List Frame) → queue c s ≡ f ∷ q → ready (credit c s) (f ∷ q) ≡ true → ((x : Class) → All (P x) (queue x s)) → All (P d) (instead c d q (queue d s))
  all_after P A A f q e r p = behind A f q e r (P A) (p A)
  all_after P A B f q e r p = p B
  all_after P B A f q e r p = p A
  all_after P B B f q e r p = behind B f q e r (P B) (p B)

  -- A's head goes out; or B's, and then A has no credit above 0
  line_after : (c : Class) (f : Frame) (q : List Frame) → queue c s ≡ f ∷ q → ready (credit c s) (f ∷ q) ≡ true → (same_class c B ≡ true → ready s.credita s.a ≡ false) → Ceiled s.table (line_by (shaped c) f.size f.size) u
  line_after A f q e r first = starts_a (terms A s.table) (terms B s.table) (blocking A s.table) (best_size s.table) (room s.table ok) (u A) (u B) ceilings f.size (omega (arith, (row A f q e r).least))
  line_after B f q e r first =
      let b = row B f q e r in
      starts_b (terms A s.table) (terms B s.table) (blocking A s.table) (best_size s.table) (room s.table ok) (u A) (u B) ceilings f.size (omega (arith, b.least)) (le_trans (row_within s.table ok B f b) (law.blocking_a s.table ok).1) (stays A (first refl))

  frames_after : (c d : Class) (f : Frame) (q : List Frame) → queue c s ≡ f ∷ q → own_frames (look_by (same_class d c) f f.size) ++ instead c d q (queue d s) ≡ queue d s
  frames_after A A f q e = sym e
  frames_after A B f q e = refl
  frames_after B A f q e = refl
  frames_after B B f q e = sym e

  module _ (c : Class) (f : Frame) (q : List Frame) (e : queue c s ≡ f ∷ q) (r : ready (credit c s) (f ∷ q) ≡ true) (first : same_class c B ≡ true → ready s.credita s.a ≡ false) where
    own : owner s.table f ≡ shaped c
    own = row_owner f (row c f q e r)

    sent_frames : Frames (sent c f q e r)
    sent_frames =
        let p = i.always.frames in
        record {
          rows = each (λ d. All (RowFrame d s.table) (queue d (sent c f q e r))) (all_after (λ d. RowFrame d s.table) c A f q e r p.rows) (all_after (λ d. RowFrame d s.table) c B f q e r p.rows);
          best = p.best;
          few = p.few;
          wire = rw own (row c f q e r);
        }

    sent_chain : Chained (sent c f q e r)
    sent_chain = chain_after (sent c f q e r) refl refl (each (λ d. class_frames d (sent c f q e r) ≡ queue d s) (rw own (frames_after c A f q e)) (rw own (frames_after c B f q e)))

    pub class_starts : Started (sent c f q e r) u
    class_starts =
        record {
          inv =
              record {
                always =
                    record {
                      accepted = ok;
                      count = i.always.count;
                      bounds = i.always.bounds;
                      clock = i.always.clock;
                      ground = each (λ d. GroundOf d (sent c f q e r) (u d)) (rw own (ground_after c A f q e r)) (rw own (ground_after c B f q e r));
                      frames = sent_frames;
                      instants = record { lasts = i.always.instants.lasts; in_use_lem = i.always.instants.in_use_lem; none_after_lem = i.always.instants.none_after_lem };
                      chain = sent_chain;
                    };
                timed =
                    record {
                      kept = each (λ d. KeptOf d (sent c f q e r) (u d)) (rw own (kept_after c A f q e r)) (rw own (kept_after c B f q e r));
                      ceilings = rw own (line_after c f q e r first);
                    };
              };
          idle = busy s.table f f.size u;
        }

  -- ---- the best-effort head goes out
  module _ (f : Frame) (q : List Frame) (e : s.best ≡ f ∷ q) (ra : ready s.credita s.a ≡ false) (rb : ready s.creditb s.b ≡ false) where
    frame : BestFrame s.table s.clock f
    frame = (rw e at i.always.frames.best).0

    unowned : owner s.table f ≡ unshaped
    unowned = best_owner ok f frame

    abbrev best_sent : State
    best_sent = with_wire (Sending f f.size) (with_best q s)

    best_frames : Frames best_sent
    best_frames =
        let p = i.always.frames in
        record {
          rows = each (λ d. All (RowFrame d s.table) (queue d best_sent)) (p.rows A) (p.rows B);
          best = (rw e at p.best).1;
          few = let n = rw e at p.few in omega arith;
          wire = rw unowned (frame, omega (arith, frame.least), omega arith);
        }

    best_chain : Chained best_sent
    best_chain = chain_after best_sent refl refl (each (λ d. class_frames d best_sent ≡ queue d s) (rw unowned refl) (rw unowned refl))

    pub best_starts : Started best_sent u
    best_starts =
        record {
          inv =
              record {
                always =
                    record {
                      accepted = ok;
                      count = i.always.count;
                      bounds = i.always.bounds;
                      clock = i.always.clock;
                      ground = each (λ d. GroundOf d best_sent (u d)) (rw unowned (ground A)) (rw unowned (ground B));
                      frames = best_frames;
                      instants = record { lasts = i.always.instants.lasts; in_use_lem = i.always.instants.in_use_lem; none_after_lem = i.always.instants.none_after_lem };
                      chain = best_chain;
                    };
                timed =
                    record {
                      kept = each (λ d. KeptOf d best_sent (u d)) (rw unowned (kept A)) (rw unowned (kept B));
                      ceilings = rw unowned (starts_best (terms A s.table) (terms B s.table) (blocking A s.table) (best_size s.table) (room s.table ok) (u A) (u B) ceilings f.size (omega (arith, frame.least)) (le_trans frame.most (law.blocking_a s.table ok).0) frame.most (stays A ra) (stays B rb));
                    };
              };
          idle = busy s.table f f.size u;
        }

  -- ---- step 1 on a free wire
  class_out : (c : Class) (q : List Frame) → queue c s ≡ q → ready (credit c s) q ≡ true → (same_class c B ≡ true → ready s.credita s.a ≡ false) → Started (send_of c s) u
  class_out c [] e r first = absurd (never_empty (credit c s) r)
  class_out c (f ∷ q) e r first = rw e (class_starts c f q e r first)

  nothing_out : s.best ≡ [] → send_best s ≡ s
  nothing_out e =
      let left : behind_head s.best ≡ s.best = rw e refl in
      let idle : head_out s.best ≡ s.wire = rw (e, no_frame_lem) refl in
      λ j. with_wire (idle j) (with_best (left j) s)

  best_out : (q : List Frame) → s.best ≡ q → ready s.credita s.a ≡ false → ready s.creditb s.b ≡ false → Started (send_best s) u
  best_out [] e ra rb = subst⁻¹ (λ (r : State). Started r u) (nothing_out e) (record { inv = i; idle = subst⁻¹ (λ (w : Wire). Idled s.table (line s.table w) u) no_frame_lem (stays A ra, stays B rb) })
  best_out (f ∷ q) e ra rb = rw e (best_starts f q e ra rb)

  not_b : {X : Type 0} → same_class A B ≡ true → X
  not_b e = let z : ◌≡◌ {A = ℕ} 0 1 = cc in absurd (omega arith)

  on_free_lem : (x y : Bool) → ready s.credita s.a ≡ x → ready s.creditb s.b ≡ y → Started (cond x (send_of A s) (cond y (send_of B s) (send_best s))) u
  on_free_lem true y ra rb = class_out A s.a refl ra not_b
  on_free_lem false true ra rb = class_out B s.b refl rb (λ e. ra)
  on_free_lem false false ra rb = best_out s.best refl ra rb

pub starts : (s : State) (u : Class → ℕ) → Inv s u → Started (start s) u
unfolding start
starts s u i = by_wire s.wire refl
  where
    by_wire : (w : Wire) → s.wire ≡ w → Started (start_on w s) u
    by_wire Free e = on_free_lem s u i e (ready s.credita s.a) (ready s.creditb s.b) refl refl
    by_wire (Sending f l) e = record { inv = i; idle = rw e (busy s.table f l u) }
