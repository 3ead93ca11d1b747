-- How large the numbers of an answer are, whatever the call and whatever the record: a broken one answers 18, and what a sound one reports is one of its frames.
use Prim.Native.Nat.{ℕ, ◌≤◌}
use mathlib.Core.Bool.{Bool, true, false, ◌||◌}
use mathlib.Core.List.{List, [], ◌∷◌}
use mathlib.Core.Path.{◌≡◌, refl}
use native.Mathlib.Omega.{arith}
use lib.Dec.{leb}
use borrow.Author.Tests.{leb-true, eqb-true}
use Rattle.table.specs.Limits.{most_rows, most_size, least_size}
use Rattle.table.specs.Wire.{size_of}
use Rattle.table.specs.Rows.{row_at}
use Rattle.table.proofs.Laws as table
use Rattle.planner.specs.Sums.{best_size}
use Rattle.planner.specs.Opening.{IsAccepted}
use Rattle.planner.proofs.Laws as law
use Rattle.machine.specs.declared.Frame.{Frame}
use Rattle.machine.specs.declared.Wire.{Wire}
use Rattle.machine.specs.declared.Wire.TheVariants.{Free, Sending}
use Rattle.machine.specs.Limits.{last_clock, best_mark}
use Rattle.machine.specs.State.{State}
use Rattle.machine.specs.Time.{owner}
use Rattle.machine.specs.Record.{on_sending, names_row, is_best, size_within, row_size, size_by, taken_by, clock_sound, sound}
use Rattle.machine.specs.Calls.{Call, offer, offer_best, advance, join, leave, Answer, taken, passed, denied, offer_check, best_check, advance_check, join_check, leave_check, answer}
use Rattle.machine.proofs.Invariant.{named_owner}
use Rattle.machine.proofs.Clauses.{Passes, each_passes, Clauses, clauses, unnamed, names_parts, queue_parts, sizes_parts, taken_parts}
use Rattle.machine.proofs.FromSound.{is_accepted_lem}
use Rattle.machine.proofs.EachFrame.{OnWire, OfEnded, EachFrame, progress_each}
use Rattle.machine.proofs.Advances.{passed_most}
use Rattle.machine.proofs.Trace.{Step, row_taken, best_taken, advanced, row_joins, row_leaves, refusal, any_step}

-- a frame of a sound record: a row's number or the best-effort mark, a wire size, an instant of the clock
pub record FrameWithin (f : Frame) : Type 0 where
  pub source : f.source ≤ best_mark
  pub size : f.size ≤ most_size
  pub taken : f.taken ≤ last_clock

-- a refusal's number and place
pub record DenialWithin (number place : ℕ) : Type 0 where
  pub some : 1 ≤ number
  pub most : number ≤ 22
  pub within : place ≤ most_rows

-- an offer, a join or a leave is taken or refused; an advance gives a count and a frame or none, or is refused
abbrev pub OfferWithin : Answer → Type 0
OfferWithin taken = Unit {0}
OfferWithin (passed n e) = ⊥
OfferWithin (denied number place) = DenialWithin number place

abbrev pub AdvanceWithin : Answer → Type 0
AdvanceWithin taken = ⊥
AdvanceWithin (passed n e) = (n ≤ last_clock) × OfEnded FrameWithin e
AdvanceWithin (denied number place) = DenialWithin number place

abbrev pub AnswerWithin : Call → Answer → Type 0
AnswerWithin (offer row payload) a = OfferWithin a
AnswerWithin (offer_best payload) a = OfferWithin a
AnswerWithin (advance n) a = AdvanceWithin a
AnswerWithin (join k r) a = OfferWithin a
AnswerWithin (leave k) a = OfferWithin a

-- ---- the frames of a sound record
module _ (s : State) (c : Clauses s) where
  ok : IsAccepted s.table
  ok = is_accepted_lem s c

  in_clock : (f : Frame) → taken_by s.clock f ≡ true → f.taken ≤ last_clock
  unfolding clock_sound
  in_clock f e = omega (arith, leb-true f.taken s.clock e, leb-true s.clock last_clock c.clock)

  at_most : (f : Frame) (n : ℕ) → size_within n f ≡ true → f.size ≤ n
  at_most f n e = leb-true _ _ (table.and-true (leb least_size f.size) _ e).1

  abbrev row_tests : List (Frame → Bool)
  row_tests = names_row s.table ∷ row_size s.table ∷ taken_by s.clock ∷ []

  abbrev best_tests : List (Frame → Bool)
  best_tests = is_best ∷ size_within (best_size s.table) ∷ taken_by s.clock ∷ []

  of_row : (f : Frame) → Passes row_tests f → FrameWithin f
  of_row f p =
      let row = table.is_used s.table f.source p.0 in
      record {
        source = omega (arith, row.below, law.rows_most s.table ok);
        size = omega (arith, at_most f (size_of (row_at s.table f.source)) p.1.0, law.size_largest s.table ok f.source row, law.largest_most s.table ok (row_at s.table f.source).class);
        taken = in_clock f p.1.1.0;
      }

  of_best : (f : Frame) → Passes best_tests f → FrameWithin f
  of_best f p =
      record {
        source = omega (arith, eqb-true f.source best_mark p.0);
        size = omega (arith, at_most f (best_size s.table) p.1.0, law.best_is s.table, table.wire_most s.table.header.payload ok.ranges.best);
        taken = in_clock f p.1.1.0;
      }

  of_wire : (w : Wire) → on_sending (λ f left. names_row s.table f || is_best f) w ≡ true → on_sending (λ f left. size_by (owner s.table f) s.table f) w ≡ true → on_sending (λ f left. taken_by s.clock f) w ≡ true → OnWire FrameWithin w
  of_wire Free n z i = tt
  of_wire (Sending f left) n z i = go (names_row s.table f) refl
    where
      go : (b : Bool) → names_row s.table f ≡ b → FrameWithin f
      go true e = of_row f (e, (rw (named_owner s.table f (table.is_used s.table f.source e)) at z, (i, tt)))
      go false e = of_best f (rw e at n, (rw (unnamed s.table f e) at z, (i, tt)))

  frames_within : EachFrame FrameWithin s
  frames_within =
      let names = names_parts s c in
      let sizes = sizes_parts s c in
      let instants = taken_parts s c in
      record {
        a = each_passes row_tests FrameWithin of_row s.a (names.0, (sizes.0, (instants.0, tt)));
        b = each_passes row_tests FrameWithin of_row s.b (names.1, (sizes.1, (instants.1, tt)));
        best = each_passes best_tests FrameWithin of_best s.best ((queue_parts s c).2, (sizes.2, (instants.2, tt)));
        wire = of_wire s.wire names.2 sizes.3 instants.3;
      }

-- ---- every answer
denial_within : (c : Call) {n p : ℕ} → DenialWithin n p → AnswerWithin c (denied n p)
denial_within (offer k x) d = d
denial_within (offer_best x) d = d
denial_within (advance m) d = d
denial_within (join k r) d = d
denial_within (leave k) d = d

broken : (s : State) → sound s ≡ false → (c : Call) → answer s c ≡ denied 18 0
unfolding offer_check best_check advance_check join_check leave_check
broken s e (offer k x) = rw e refl
broken s e (offer_best x) = rw e refl
broken s e (advance n) = rw e refl
broken s e (join k r) = rw e refl
broken s e (leave k) = rw e refl

step_within : {s r : State} {c : Call} {a : Answer} → Clauses s → Step s c a r → AnswerWithin c a
step_within w (row_taken k x h g e) = tt
step_within w (best_taken x h g) = tt
step_within {s} w (advanced n room) = (omega (arith, passed_most n s), (progress_each FrameWithin s (frames_within s w) n).1)
step_within w (row_joins k r h g e a) = tt
step_within w (row_leaves k h q a) = tt
step_within w (refusal c n p o q) = denial_within c (record { some = o.some; most = o.most; within = o.within })

pub answer_within : (s : State) (c : Call) → AnswerWithin c (answer s c)
answer_within s c = go (sound s) refl
  where
    go : (b : Bool) → sound s ≡ b → AnswerWithin c (answer s c)
    go true e = step_within (clauses s e) (any_step s e c)
    go false e = rw (broken s e c) (denial_within c (record { some = omega arith; most = omega arith; within = omega arith }))
