-- An offer that is taken keeps the invariant: it is not early, so its row's token is whole, and its frame comes a period after the row's newest.
use Prim.Native.Nat.{ℕ, zero, suc, ◌+◌, ◌-◌, ◌*◌, ◌≤◌, ◌<◌}
use mathlib.Core.Bool.{Bool, true, false, cond, false≢true}
use mathlib.Core.List.{List, [], ◌∷◌, ◌++◌, append_assoc, append-nil}
use mathlib.Core.Path.{◌≡◌, refl, sym, ◌∙◌, ap, subst}
use native.Mathlib.Nat.{mul-le-mul_left, le_refl}
use native.Mathlib.Omega.{arith}
use lib.Dec.{eqb}
use lib.ListN.{length, get_or, set, length-set, length-append}
use lib.Seq.{get_or-set_same, get_or-set_other}
use borrow.Author.Tests.{ltb-false, eqb-true, eqb-false, ne_eqb}
use Rattle.table.specs.declared.Class.{Class}
use Rattle.table.specs.declared.Class.TheVariants.{A, B}
use Rattle.table.specs.declared.Row.{Row}
use Rattle.table.specs.Limits.{D}
use Rattle.table.specs.Wire.{size_of, share_of, period_of}
use Rattle.table.specs.Rows.{is_there, Contents, row_at, same_class, InUse}
use Rattle.table.proofs.Laws as table
use Rattle.planner.specs.Opening.{IsAccepted}
use Rattle.planner.proofs.Laws as law
use Rattle.machine.specs.declared.Frame.{Frame}
use Rattle.machine.specs.Limits.{best_places}
use Rattle.machine.specs.State.{Instant, never, at, State, credit, queue, instead}
use Rattle.machine.specs.Record.{taken_in}
use Rattle.machine.specs.Calls.{too_soon, early, row_frame, joined, take_row, best_frame, take_best}
use Rattle.machine.proofs.Instants.{for_set}
use Rattle.machine.proofs.Tokens.{token_of, weigh, tokens, tokens_fall}
use Rattle.machine.proofs.OneClass.{All, Ground, Kept, offer_grounds, frame_joins}
use Rattle.machine.proofs.Chain.{Chain, chain_more, taken_append}
use Rattle.machine.proofs.Invariant.{look, RowFrame, BestFrame, own_frames, class_frames, row_instants, Chained, NoneAfter, terms, GroundOf, KeptOf, Inv, each}

-- ---- an offer that is not early finds its row's token whole
whole_token : (t : Contents) (ok : IsAccepted t) (k now : ℕ) (l : Instant) → InUse t k → too_soon l now (period_of (row_at t k)) ≡ false → token_of (row_at t k) l now ≡ D * size_of (row_at t k)
whole_token t ok k now never h e = refl
whole_token t ok k now (at j) h e =
    let long : period_of (row_at t k) ≤ now - j = ltb-false (now - j) (period_of (row_at t k)) e in
    omega (arith, law.share_covers t ok k h, mul-le-mul_left (share_of (row_at t k)) long)

-- ---- queues with a frame more
all_more : (P : Frame → Type 0) (q : List Frame) (f : Frame) → All P q → P f → All P (q ++ f ∷ [])
all_more P [] f a p = (p, tt)
all_more P (g ∷ q) f a p = (a.0, all_more P q f a.1 p)

set_none_after : (now k : ℕ) (is : List Instant) → NoneAfter now is → NoneAfter now (set is k (at now))
set_none_after now k [] p = tt
set_none_after now zero (never ∷ is) p = (le_refl now, p)
set_none_after now zero (at j ∷ is) p = (le_refl now, p.1)
set_none_after now (suc k) (never ∷ is) p = set_none_after now k is p
set_none_after now (suc k) (at j ∷ is) p = (p.0, set_none_after now k is p.1)

weigh_own : (c : Class) (r : Row) (n : ℕ) → is_there r ≡ true → r.class ≡ c → weigh c r n ≡ n
weigh_own c r n h e = rw (h, e, table.same_self c) refl

weigh_other : (c d : Class) (r : Row) (n : ℕ) → r.class ≡ d → same_class c d ≡ false → weigh c r n ≡ 0
weigh_other c d r n e f = rw (e, f) refl

-- ---- the offer to a row
module _ (s : State) (u : Class → ℕ) (i : Inv s u) (k p : ℕ) (h : InUse s.table k) (pays : p ≤ (row_at s.table k).payload) (late : early s k ≡ false) where
  abbrev last' : List Instant
  last' = set s.last k (at s.clock)

  abbrev new : Frame
  new = row_frame s k p

  falls : (c : Class) → tokens c s.clock s.table.rows last' + weigh c (row_at s.table k) (D * size_of (row_at s.table k)) ≡ tokens c s.clock s.table.rows s.last
  falls c = tokens_fall c s.clock s.table.rows s.last k h.below i.always.instants.lasts (whole_token s.table i.always.accepted k s.clock (get_or s.last k never) h late)

  -- ---- the row's class, and the other
  joins : (c : Class) → (row_at s.table k).class ≡ c → Kept (terms c s.table) s.clock (tokens c s.clock s.table.rows last') (queue c s ++ new ∷ []) (look c s.table s.wire) (u c)
  joins c e =
      frame_joins (terms c s.table) s.clock _ _ (queue c s) (look c s.table s.wire) new (u c) refl (table.frame_within (row_at s.table k) p pays)
      (rw (weigh_own c (row_at s.table k) (D * size_of (row_at s.table k)) h.there e) at (falls c)) (i.timed.kept c)

  stays : (c d : Class) → (row_at s.table k).class ≡ d → same_class c d ≡ false → Kept (terms c s.table) s.clock (tokens c s.clock s.table.rows last') (queue c s) (look c s.table s.wire) (u c)
  stays c d e f =
      let same : tokens c s.clock s.table.rows last' ≡ tokens c s.clock s.table.rows s.last = omega (arith, falls c, weigh_other c d (row_at s.table k) (D * size_of (row_at s.table k)) e f) in
      subst (λ (n : ℕ). Kept (terms c s.table) s.clock n (queue c s) (look c s.table s.wire) (u c)) (sym same) (i.timed.kept c)

  new_frame : (c : Class) → (row_at s.table k).class ≡ c → RowFrame c s.table new
  new_frame c e = record { names = h; class = e; least = table.frame_least (row_at s.table k) p; most = table.frame_within (row_at s.table k) p pays }

  kept_after : (c d : Class) → (row_at s.table k).class ≡ c → Kept (terms d s.table) s.clock (tokens d s.clock s.table.rows last') (instead c d (queue c s ++ new ∷ []) (queue d s)) (look d s.table s.wire) (u d)
  kept_after A A e = joins A e
  kept_after A B e = stays B A e refl
  kept_after B A e = stays A B e refl
  kept_after B B e = joins B e

  ground_after : (c d : Class) → Ground (terms d s.table) s.clock (credit d s) (instead c d (queue c s ++ new ∷ []) (queue d s)) (look d s.table s.wire) (u d)
  ground_after A A = offer_grounds (terms A s.table) s.clock s.credita s.a (look A s.table s.wire) new (u A) refl (i.always.ground A)
  ground_after A B = i.always.ground B
  ground_after B A = i.always.ground A
  ground_after B B = offer_grounds (terms B s.table) s.clock s.creditb s.b (look B s.table s.wire) new (u B) refl (i.always.ground B)

  all_after : (P : Class → Frame → Type 0) (c d : Class) → P c new → ((x : Class) → All (P x) (queue x s)) → All (P d) (instead c d (queue c s ++ new ∷ []) (queue d s))
  all_after P A A n p = all_more (P A) s.a new (p A) n
  all_after P A B n p = p B
  all_after P B A n p = p A
  all_after P B B n p = all_more (P B) s.b new (p B) n

  -- a row's frames in the port, with the new one if it is the row's
  abbrev added : Bool → List ℕ
  added true = s.clock ∷ []
  added false = []

  taken_new : (j : ℕ) → taken_in j (new ∷ []) ≡ added (eqb k j)
  taken_new j = go (eqb k j)
    where
      go : (b : Bool) → cond b (s.clock ∷ []) [] ≡ added b
      go true = refl
      go false = refl

  joins_frames : (c : Class) (j : ℕ) → taken_in j (own_frames (look c s.table s.wire) ++ (queue c s ++ new ∷ [])) ≡ taken_in j (class_frames c s) ++ added (eqb k j)
  joins_frames c j = rw (← append_assoc (own_frames (look c s.table s.wire)) (queue c s) (new ∷ []), taken_append j (class_frames c s) (new ∷ []), taken_new j) refl

  other_row : (c d : Class) (j : ℕ) → (row_at s.table k).class ≡ c → (row_at s.table j).class ≡ d → same_class c d ≡ false → eqb k j ≡ false
  other_row c d j e g f = ne_eqb k j (λ z. false≢true (sym f ∙ (rw (← e, ← g, z) (table.same_self (row_at s.table j).class))))

  stays_frames : (c d : Class) (j : ℕ) → (row_at s.table k).class ≡ c → (row_at s.table j).class ≡ d → same_class c d ≡ false → taken_in j (class_frames d s) ≡ taken_in j (class_frames d s) ++ added (eqb k j)
  stays_frames c d j e g f = rw (other_row c d j e g f) (sym (append-nil (taken_in j (class_frames d s))))

  frames_after : (c d : Class) (j : ℕ) → (row_at s.table k).class ≡ c → (row_at s.table j).class ≡ d → taken_in j (class_frames d (joined c new s)) ≡ taken_in j (class_frames d s) ++ added (eqb k j)
  frames_after A A j e g = joins_frames A j
  frames_after A B j e g = stays_frames A B j e g refl
  frames_after B A j e g = stays_frames B A j e g refl
  frames_after B B j e g = joins_frames B j

  row_chain : (j : ℕ) → InUse s.table j → (b : Bool) → eqb k j ≡ b → Chain (period_of (row_at s.table j)) (row_instants j s ++ added b) (get_or last' j never)
  row_chain j g true e =
      let is = eqb-true k j e in
      rw (← is, get_or-set_same s.last k (at s.clock) never (rw i.always.instants.lasts h.below))
      (chain_more (period_of (row_at s.table k)) (get_or s.last k never) s.clock (row_instants k s) (omega (arith, law.period_least s.table i.always.accepted k h)) late (i.always.chain k h))
  row_chain j g false e =
      rw (append-nil (row_instants j s), get_or-set_other s.last k j (at s.clock) never (λ z. eqb-false k j e (sym z))) (i.always.chain j g)

  chain_after : (c : Class) → (row_at s.table k).class ≡ c → Chained (joined c new s)
  chain_after c e j g = rw (frames_after c (row_at s.table j).class j e refl) (row_chain j g (eqb k j) refl)

  taken_as : (c : Class) → (row_at s.table k).class ≡ c → Inv (joined c new s) u
  taken_as c e =
      record {
        always =
            record {
              accepted = i.always.accepted;
              count = i.always.count;
              bounds = i.always.bounds;
              clock = i.always.clock;
              ground = each (λ d. GroundOf d (joined c new s) (u d)) (ground_after c A) (ground_after c B);
              frames =
                  record {
                    rows = each (λ d. All (RowFrame d s.table) (queue d (joined c new s))) (all_after (λ d. RowFrame d s.table) c A (new_frame c e) i.always.frames.rows) (all_after (λ d. RowFrame d s.table) c B (new_frame c e) i.always.frames.rows);
                    best = i.always.frames.best;
                    few = i.always.frames.few;
                    wire = i.always.frames.wire;
                  };
              instants = record { lasts = length-set s.last k (at s.clock) ∙ i.always.instants.lasts; in_use_lem = for_set s.table.rows s.last k (at s.clock) h.there (rw i.always.instants.lasts h.below) ∙ ap (λ (l : List Instant). set l k (at s.clock)) i.always.instants.in_use_lem; none_after_lem = set_none_after s.clock k s.last i.always.instants.none_after_lem };
              chain = chain_after c e;
            };
        timed =
            record {
              kept = each (λ d. KeptOf d (joined c new s) (u d)) (kept_after c A e) (kept_after c B e);
              ceilings = i.timed.ceilings;
            };
      }

  pub row_taken : Inv (take_row k p s) u
  unfolding take_row
  row_taken = taken_as (row_at s.table k).class refl

-- ---- the offer of best effort
pub best_taken : (s : State) (u : Class → ℕ) → Inv s u → (p : ℕ) → p ≤ s.table.header.payload → length s.best < best_places → Inv (take_best p s) u
unfolding take_best
best_taken s u i p pays place =
    let a = i.always in
    record {
      always =
          record {
            accepted = a.accepted;
            count = a.count;
            bounds = a.bounds;
            clock = a.clock;
            ground = each (λ c. GroundOf c (take_best p s) (u c)) (a.ground A) (a.ground B);
            frames =
                record {
                  rows = each (λ c. All (RowFrame c s.table) (queue c (take_best p s))) (a.frames.rows A) (a.frames.rows B);
                  best = all_more (BestFrame s.table s.clock) s.best (best_frame s p) a.frames.best (record { mark = refl; least = table.wire_least p; most = law.best_within s.table a.accepted p pays; past = le_refl s.clock });
                  few = rw (length-append s.best (best_frame s p ∷ [])) (omega arith);
                  wire = a.frames.wire;
                };
            instants = record { lasts = a.instants.lasts; in_use_lem = a.instants.in_use_lem; none_after_lem = a.instants.none_after_lem };
            chain = λ k g. same_chain (row_at s.table k).class k (a.chain k g);
          };
      timed =
          record {
            kept = each (λ c. KeptOf c (take_best p s) (u c)) (i.timed.kept A) (i.timed.kept B);
            ceilings = i.timed.ceilings;
          };
    }
  where
    same_chain : (c : Class) (k : ℕ) → Chain (period_of (row_at s.table k)) (taken_in k (class_frames c s)) (get_or s.last k never) → Chain (period_of (row_at s.table k)) (taken_in k (class_frames c (take_best p s))) (get_or s.last k never)
    same_chain A k g = g
    same_chain B k g = g
