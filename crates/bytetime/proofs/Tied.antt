-- The numbers of byte-times stand for the machine's state, start after start and byte after byte.
use Rattle.std.specs.Prelude.{Option, Some, None}
use Prim.Native.Nat.{ℕ, zero, suc, ◌+◌, ◌-◌, ◌<◌}
use mathlib.Core.Bool.{Bool, true, false, cond, not, ◌&&◌, true≢false, false≢true}
use mathlib.Core.List.{List, [], ◌∷◌}
use mathlib.Core.Path.{◌≡◌, refl, sym, ◌∙◌, ap}
use native.Mathlib.Omega.{arith}
use lib.IntN.{ℤ, pos, negsuc}
use lib.Dec.{leb, eqb}
use borrow.Author.Tests.{le-leb, lt-leb, leb-true, eq-eqb, ne_eqb, eqb-true, eqb-false}
use Rattle.table.specs.declared.Class.{Class}
use Rattle.table.specs.declared.Class.TheVariants.{A, B}
use Rattle.table.specs.Limits.{left_at_report}
use Rattle.table.specs.Rows.{Contents}
use Rattle.planner.specs.Sums.{idle, send}
use Rattle.machine.specs.declared.Frame.{Frame}
use Rattle.machine.specs.declared.Wire.{Wire}
use Rattle.machine.specs.declared.Wire.TheVariants.{Free, Sending}
use Rattle.machine.specs.State.{Instant, State}
use Rattle.machine.specs.Time.{Owner, shaped, unshaped, owner, owns, on_wire, ready, head_out, behind_head, send_of, send_best, start_on, start, earned, earn, wire_after, reported_in, pass, settled, settle, byte_time, ends_in, Progress, further, onward, progress}
use Rattle.machine.proofs.Places.{byte_clock}
use Rattle.bytetime.specs.declared.Sender.{Sender}
use Rattle.bytetime.specs.declared.Sender.TheVariants.{Nobody, ClassA, ClassB, BestEffort}
use Rattle.bytetime.specs.declared.Hot.{Hot}
use Rattle.bytetime.specs.declared.Fixed.{Fixed}
use Rattle.bytetime.specs.declared.Ran.{Ran}
use Rattle.bytetime.specs.Bytes.{earned_with, settled_with, credit_after, is_a, is_b, is_best, is_nobody, ready_by, goes_a, goes_b, goes_best, next_by, goes, on_free, started_hot, left_after, byte_off, is_over, freed, freed_if_over, passed_hot, tick_hot, ended_hot, further_hot, onward_hot, run_hot}
use Rattle.bytetime.specs.Ports.{some, head_of, fixed_of, sender_by, sender_on, left_on, hot_of, frame_on, frame_of, wire_by, queue_after, after_run, ended_by, Fits, AsMachine}

-- the sender of a frame, by its owner
abbrev pub Owned : Sender → Owner → Type 0
Owned Nobody o = o ≡ o
Owned ClassA o = o ≡ shaped A
Owned ClassB o = o ≡ shaped B
Owned BestEffort o = o ≡ unshaped

-- ---- the tests and steps of a class, on numbers and on its queue
same_ready : (c : ℤ) (q : List Frame) → ready c q ≡ ready_by c (some q)
same_ready (pos n) [] = refl
same_ready (pos n) (f ∷ fs) = refl
same_ready (negsuc n) q = refl

same_earned : (on : Bool) (q : List Frame) (i s : ℕ) (c : ℤ) → earned on q i s c ≡ earned_with on (some q) i s c
same_earned true q i s c = refl
same_earned false [] i s c = refl
same_earned false (f ∷ fs) i s c = refl

same_settled : (on : Bool) (q : List Frame) (c : ℤ) → settled on q c ≡ settled_with on (some q) c
same_settled true q c = refl
same_settled false [] c = refl
same_settled false (f ∷ fs) c = refl

-- a class's credit after a byte
same_credit : (on still : Bool) (q : List Frame) (i s : ℕ) (c : ℤ) → settled still q (earned on q i s c) ≡ credit_after on still (some q) i s c
same_credit on still q i s c = same_settled still q (earned on q i s c) ∙ ap (λ (z : ℤ). settled_with still (some q) z) (same_earned on q i s c)

-- ---- who sends is what the wire says
abbrev is_of : Class → Sender → Bool
is_of A w = is_a w
is_of B w = is_b w

sends_for : (c : Class) (w : Sender) (t : Contents) (f : Frame) (left : ℕ) → Owned w (owner t f) → on_wire c t (wire_by w f left) ≡ is_of c w
sends_for A Nobody t f left e = refl
sends_for A ClassA t f left e = rw e refl
sends_for A ClassB t f left e = rw e refl
sends_for A BestEffort t f left e = rw e refl
sends_for B Nobody t f left e = refl
sends_for B ClassA t f left e = rw e refl
sends_for B ClassB t f left e = rw e refl
sends_for B BestEffort t f left e = rw e refl

-- and so after the byte, unless that was the last
and-false : (b : Bool) → false ≡ b && false
and-false true = refl
and-false false = refl

and-true : (b : Bool) → b ≡ b && true
and-true true = refl
and-true false = refl

after_byte : (c : Class) (t : Contents) (f : Frame) (left : ℕ) (b : Bool) → owns c (owner t f) ≡ b → on_wire c t (wire_after (Sending f left)) ≡ b && leb 2 left
after_byte c t f zero b e = and-false b
after_byte c t f (suc zero) b e = and-false b
after_byte c t f (suc (suc left)) b e = rw (le-leb 2 (suc (suc left)) (omega arith)) (e ∙ and-true b)

still_for : (c : Class) (w : Sender) (t : Contents) (f : Frame) (left : ℕ) → Owned w (owner t f) → on_wire c t (wire_after (wire_by w f left)) ≡ is_of c w && leb 2 left
still_for A Nobody t f left e = refl
still_for B Nobody t f left e = refl
still_for c ClassA t f left e = after_byte c t f left (is_of c ClassA) (sends_for c ClassA t f left e)
still_for c ClassB t f left e = after_byte c t f left (is_of c ClassB) (sends_for c ClassB t f left e)
still_for c BestEffort t f left e = after_byte c t f left (is_of c BestEffort) (sends_for c BestEffort t f left e)

one_byte : (f : Frame) (left : ℕ) → wire_after (Sending f left) ≡ cond (leb (left - 1) 0) Free (Sending f (left - 1))
one_byte f zero = refl
one_byte f (suc zero) = refl
one_byte f (suc (suc n)) = let e : suc (suc n) - 1 ≡ suc n = omega arith in rw (e, lt-leb (suc n) 0 (omega arith)) refl

-- after its last byte nobody has the wire, and before that it is where it was
wire_after_lem : (w : Sender) (f : Frame) (left : ℕ) {over : Bool} → not (is_nobody w) && leb (left_after (is_nobody w) left) 0 ≡ over → wire_after (wire_by w f left) ≡ cond over Free (wire_by w f (left_after (is_nobody w) left))
wire_after_lem Nobody f left e = rw (← e) refl
wire_after_lem ClassA f left e = one_byte f left ∙ rw (← e) refl
wire_after_lem ClassB f left e = one_byte f left ∙ rw (← e) refl
wire_after_lem BestEffort f left e = one_byte f left ∙ rw (← e) refl

-- the frame that is reported with the byte
at_report : (left : ℕ) → eqb left (suc left_at_report) ≡ eqb (left - 1) left_at_report
at_report left = by_test (eqb (left - 1) left_at_report) refl
  where
    by_test : (b : Bool) → eqb (left - 1) left_at_report ≡ b → eqb left (suc left_at_report) ≡ b
    by_test true e = eq-eqb left (suc left_at_report) (omega (arith, eqb-true (left - 1) left_at_report e))
    by_test false e = ne_eqb left (suc left_at_report) (λ z. eqb-false (left - 1) left_at_report e (omega (arith, z)))

reported : (f : Frame) (left : ℕ) → reported_in (Sending f left) ≡ cond (eqb (left - 1) left_at_report) (Some f) None
unfolding reported_in
reported f left = rw (at_report left) refl

none_reported : reported_in Free ≡ None
unfolding reported_in
none_reported = refl

ends : (w : Sender) (f : Frame) (left : ℕ) → reported_in (wire_by w f left) ≡ cond (not (is_nobody w) && eqb (left_after (is_nobody w) left) left_at_report) (Some f) None
ends Nobody f left = none_reported
ends ClassA f left = reported f left
ends ClassB f left = reported f left
ends BestEffort f left = reported f left

-- a frame is not reported with its last byte
over_silent : (b : Bool) (left : ℕ) → b && leb left 0 ≡ true → b && eqb left left_at_report ≡ false
over_silent true left e = ne_eqb left left_at_report (λ z. absurd (omega (arith, z, leb-true left 0 e)))
over_silent false left e = refl

-- ---- the numbers stand for a state s that byte-times lead to from s₀
pub record Tied (s₀ s : State) (h : Hot) : Type 0 where
  pub table : s.table ≡ s₀.table
  pub bounds : s.bounds ≡ s₀.bounds
  pub last : s.last ≡ s₀.last
  pub credita : h.credita ≡ s.credita
  pub creditb : h.creditb ≡ s.creditb
  pub a : s.a ≡ queue_after (h.moved && is_a h.sender) s₀.a
  pub b : s.b ≡ queue_after (h.moved && is_b h.sender) s₀.b
  pub best : s.best ≡ queue_after (h.moved && is_best h.sender) s₀.best
  pub waitsa : h.waitsa ≡ some s.a
  pub waitsb : h.waitsb ≡ some s.b
  pub waitsbest : h.waitsbest ≡ some s₀.best
  pub idle : is_nobody h.sender ≡ true → h.moved ≡ false
  pub wire : s.wire ≡ wire_by h.sender (frame_of s₀ h) h.left
  pub owned : Owned h.sender (owner s₀.table (frame_of s₀ h))

is_waiting : (c : ℤ) (waits : Bool) → ready_by c waits ≡ true → waits ≡ true
is_waiting (pos n) waits e = e
is_waiting (negsuc n) waits e = absurd (false≢true e)

-- a frame that went out in these byte-times is still to be reported
abbrev Unreported : Hot → Type 0
Unreported h = h.moved ≡ true → left_at_report < h.left

-- a head that goes out is on the wire with all its bytes
head_out_lem : (q : List Frame) → some q ≡ true → head_out q ≡ Sending (head_of q) (head_of q).size
head_out_lem [] e = absurd (false≢true e)
head_out_lem (f ∷ fs) e = refl

none_out : (q : List Frame) → some q ≡ false → (head_out q ≡ Free) × (behind_head q ≡ q)
none_out [] e = (refl, refl)
none_out (f ∷ fs) e = absurd (true≢false e)

-- step 1
module _ (s₀ : State) (fits : Fits s₀) where
  abbrev x : Fixed
  x = fixed_of s₀

  module _ (s : State) (h : Hot) (t : Tied s₀ s h) (free : is_nobody h.sender ≡ true) where
    -- on a free wire every queue is as it was found
    whole_a : s.a ≡ s₀.a
    whole_a = t.a ∙ rw (t.idle free) refl

    whole_b : s.b ≡ s₀.b
    whole_b = t.b ∙ rw (t.idle free) refl

    whole_best : s.best ≡ s₀.best
    whole_best = t.best ∙ rw (t.idle free) refl

    a_goes : h.waitsa ≡ true → Tied s₀ (send_of A s) (goes_a h x)
    unfolding fixed_of
    a_goes e =
        let w : some s₀.a ≡ true = ap some (sym whole_a) ∙ sym t.waitsa ∙ e in
        record {
          table = t.table;
          bounds = t.bounds;
          last = t.last;
          credita = t.credita;
          creditb = t.creditb;
          a = ap behind_head whole_a;
          b = whole_b;
          best = whole_best;
          waitsa = rw whole_a refl;
          waitsb = t.waitsb;
          waitsbest = t.waitsbest;
          idle = λ z. absurd (false≢true z);
          wire = ap head_out whole_a ∙ head_out_lem s₀.a w;
          owned = fits.a.owned w;
        }

    b_goes : h.waitsb ≡ true → Tied s₀ (send_of B s) (goes_b h x)
    unfolding fixed_of
    b_goes e =
        let w : some s₀.b ≡ true = ap some (sym whole_b) ∙ sym t.waitsb ∙ e in
        record {
          table = t.table;
          bounds = t.bounds;
          last = t.last;
          credita = t.credita;
          creditb = t.creditb;
          a = whole_a;
          b = ap behind_head whole_b;
          best = whole_best;
          waitsa = t.waitsa;
          waitsb = rw whole_b refl;
          waitsbest = t.waitsbest;
          idle = λ z. absurd (false≢true z);
          wire = ap head_out whole_b ∙ head_out_lem s₀.b w;
          owned = fits.b.owned w;
        }

    best_goes : h.waitsbest ≡ true → Tied s₀ (send_best s) (goes_best h x)
    unfolding fixed_of
    best_goes e =
        let w : some s₀.best ≡ true = sym t.waitsbest ∙ e in
        record {
          table = t.table;
          bounds = t.bounds;
          last = t.last;
          credita = t.credita;
          creditb = t.creditb;
          a = whole_a;
          b = whole_b;
          best = ap behind_head whole_best;
          waitsa = t.waitsa;
          waitsb = t.waitsb;
          waitsbest = t.waitsbest;
          idle = λ z. absurd (false≢true z);
          wire = ap head_out whole_best ∙ head_out_lem s₀.best w;
          owned = fits.best.owned w;
        }

    none_goes : h.waitsbest ≡ false → s.wire ≡ Free → Tied s₀ (send_best s) h
    none_goes e w =
        let n = none_out s₀.best (sym t.waitsbest ∙ e) in
        record {
          table = t.table;
          bounds = t.bounds;
          last = t.last;
          credita = t.credita;
          creditb = t.creditb;
          a = t.a;
          b = t.b;
          best = ap behind_head whole_best ∙ n.1 ∙ sym whole_best ∙ t.best;
          waitsa = t.waitsa;
          waitsb = t.waitsb;
          waitsbest = t.waitsbest;
          idle = t.idle;
          wire = ap head_out whole_best ∙ n.0 ∙ sym w ∙ t.wire;
          owned = t.owned;
        }

    free_starts : s.wire ≡ Free → Tied s₀ (start_on Free s) (on_free h x)
    unfolding on_free
    free_starts w = a_first (ready_by h.credita h.waitsa) (ready_by h.creditb h.waitsb) h.waitsbest refl refl refl (same_ready s.credita s.a ∙ rw (t.credita, t.waitsa) refl) (same_ready s.creditb s.b ∙ rw (t.creditb, t.waitsb) refl)
      where
        a_first : (ra rb rc : Bool) → ready_by h.credita h.waitsa ≡ ra → ready_by h.creditb h.waitsb ≡ rb → h.waitsbest ≡ rc → ready s.credita s.a ≡ ra → ready s.creditb s.b ≡ rb → Tied s₀ (start_on Free s) (goes (next_by ra rb rc) h x)
        a_first true rb rc e f g ea eb = rw ea (a_goes (is_waiting h.credita h.waitsa e))
        a_first false true rc e f g ea eb = rw (ea, eb) (b_goes (is_waiting h.creditb h.waitsb f))
        a_first false false true e f g ea eb = rw (ea, eb) (best_goes g)
        a_first false false false e f g ea eb = rw (ea, eb) (none_goes g w)

    -- a frame that has just started is still to be reported
    free_unreported : Unreported (on_free h x)
    unfolding on_free fixed_of
    free_unreported = a_first (ready_by h.credita h.waitsa) (ready_by h.creditb h.waitsb) h.waitsbest refl refl refl
      where
        a_first : (ra rb rc : Bool) → ready_by h.credita h.waitsa ≡ ra → ready_by h.creditb h.waitsb ≡ rb → h.waitsbest ≡ rc → Unreported (goes (next_by ra rb rc) h x)
        a_first true rb rc e f g _ = fits.a.bytes (ap some (sym whole_a) ∙ sym t.waitsa ∙ is_waiting h.credita h.waitsa e)
        a_first false true rc e f g _ = fits.b.bytes (ap some (sym whole_b) ∙ sym t.waitsb ∙ is_waiting h.creditb h.waitsb f)
        a_first false false true e f g _ = fits.best.bytes (sym t.waitsbest ∙ g)
        a_first false false false e f g m = absurd (true≢false (sym m ∙ t.idle free))

  module _ (s : State) (h : Hot) (t : Tied s₀ s h) where
    starts : Tied s₀ (start s) (started_hot h x)
    unfolding start started_hot
    starts = by_sender h.sender s.wire refl refl t.wire
      where
        by_sender : (w : Sender) (v : Wire) → h.sender ≡ w → s.wire ≡ v → v ≡ wire_by w (frame_of s₀ h) h.left → Tied s₀ (start_on v s) (cond (is_nobody w) (on_free h x) h)
        by_sender Nobody v q f g = rw g (free_starts s h t (ap (λ (w : Sender). is_nobody w) q) (f ∙ g))
        by_sender ClassA v q f g = rw g t
        by_sender ClassB v q f g = rw g t
        by_sender BestEffort v q f g = rw g t

    starts_unreported : Unreported h → Unreported (started_hot h x)
    unfolding started_hot
    starts_unreported u = if_free (is_nobody h.sender) refl
      where
        if_free : (b : Bool) → is_nobody h.sender ≡ b → Unreported (cond b (on_free h x) h)
        if_free true n = free_unreported s h t n
        if_free false n = u

    -- what is reported in the byte to come
    byte_ends : reported_in s.wire ≡ cond (ended_hot (passed_hot h x)) (Some (frame_of s₀ (passed_hot h x))) None
    unfolding passed_hot freed_if_over ended_hot
    byte_ends = ap reported_in t.wire ∙ ends h.sender (frame_of s₀ h) h.left ∙ by_over (is_over (byte_off h x)) refl
      where
        by_over : (b : Bool) → is_over (byte_off h x) ≡ b → cond (not (is_nobody h.sender) && eqb (left_after (is_nobody h.sender) h.left) left_at_report) (Some (frame_of s₀ h)) None ≡ cond (ended_hot (cond b (freed (byte_off h x)) (byte_off h x))) (Some (frame_of s₀ (cond b (freed (byte_off h x)) (byte_off h x)))) None
        by_over true e = rw (over_silent (not (is_nobody h.sender)) (left_after (is_nobody h.sender) h.left) e) refl
        by_over false e = refl

    module _ (unreported : Unreported h) where
      -- such a frame has the wire still
      sends : h.moved ≡ true → is_nobody h.sender ≡ false
      sends m = by_sender (is_nobody h.sender) refl
        where
          by_sender : (b : Bool) → is_nobody h.sender ≡ b → b ≡ false
          by_sender true n = absurd (true≢false (sym m ∙ t.idle n))
          by_sender false n = refl

      not_over : h.moved ≡ true → is_over (byte_off h x) ≡ false
      not_over m = rw (sends m) (lt-leb (h.left - 1) 0 (omega (arith, unreported m)))

      over_unmoved : is_over (byte_off h x) ≡ true → h.moved ≡ false
      over_unmoved e = by_moved h.moved refl
        where
          by_moved : (b : Bool) → h.moved ≡ b → b ≡ false
          by_moved true m = absurd (true≢false (sym e ∙ not_over m))
          by_moved false m = refl

      -- steps 2, 3 and 4
      passes : Tied s₀ (settle (pass (earn s))) (passed_hot h x)
      unfolding passed_hot freed_if_over fixed_of
      passes = by_over (is_over (byte_off h x)) refl
        where
          f : Frame
          f = frame_of s₀ h

          o : Owned h.sender (owner s.table f)
          o = rw t.table t.owned

          credit_a : (byte_off h x).credita ≡ (settle (pass (earn s))).credita
          credit_a = rw (t.credita, t.waitsa, ← t.table, t.wire, sends_for A h.sender s.table f h.left o, still_for A h.sender s.table f h.left o) (sym (same_credit (is_a h.sender) (is_a h.sender && leb 2 h.left) s.a (idle A s.table) (send A s.table) s.credita))

          credit_b : (byte_off h x).creditb ≡ (settle (pass (earn s))).creditb
          credit_b = rw (t.creditb, t.waitsb, ← t.table, t.wire, sends_for B h.sender s.table f h.left o, still_for B h.sender s.table f h.left o) (sym (same_credit (is_b h.sender) (is_b h.sender && leb 2 h.left) s.b (idle B s.table) (send B s.table) s.creditb))

          by_over : (b : Bool) → is_over (byte_off h x) ≡ b → Tied s₀ (settle (pass (earn s))) (cond b (freed (byte_off h x)) (byte_off h x))
          by_over true e =
              let m = over_unmoved e in
              record {
                table = t.table;
                bounds = t.bounds;
                last = t.last;
                credita = credit_a;
                creditb = credit_b;
                a = t.a ∙ rw m refl;
                b = t.b ∙ rw m refl;
                best = t.best ∙ rw m refl;
                waitsa = t.waitsa;
                waitsb = t.waitsb;
                waitsbest = t.waitsbest;
                idle = λ _. m;
                wire = ap wire_after t.wire ∙ wire_after_lem h.sender f h.left e;
                owned = refl;
              }
          by_over false e =
              record {
                table = t.table;
                bounds = t.bounds;
                last = t.last;
                credita = credit_a;
                creditb = credit_b;
                a = t.a;
                b = t.b;
                best = t.best;
                waitsa = t.waitsa;
                waitsb = t.waitsb;
                waitsbest = t.waitsbest;
                idle = t.idle;
                wire = ap wire_after t.wire ∙ wire_after_lem h.sender f h.left e;
                owned = t.owned;
              }

      passes_unreported : ended_hot (passed_hot h x) ≡ false → Unreported (passed_hot h x)
      unfolding passed_hot freed_if_over ended_hot
      passes_unreported = by_over (is_over (byte_off h x)) refl
        where
          longer : (left : ℕ) → left_at_report < left → (left - 1 ≡ left_at_report → ⊥) → left_at_report < left - 1
          longer left more other = omega (arith, more, other)

          by_over : (b : Bool) → is_over (byte_off h x) ≡ b → ended_hot (cond b (freed (byte_off h x)) (byte_off h x)) ≡ false → Unreported (cond b (freed (byte_off h x)) (byte_off h x))
          by_over true e q m = absurd (true≢false (sym m ∙ over_unmoved e))
          by_over false e q m =
              let other : h.left - 1 ≡ left_at_report → ⊥ = eqb-false (h.left - 1) left_at_report (rw (sends m) at q) in
              rw (sends m) (longer h.left (unreported m) other)

  module _ (s : State) (h : Hot) (t : Tied s₀ s h) (unreported : Unreported h) where
    -- one byte-time, and the frame that is reported in it
    ticks : Tied s₀ (byte_time s) (tick_hot h x)
    unfolding byte_time tick_hot
    ticks = passes (start s) (started_hot h x) (starts s h t) (starts_unreported s h t unreported)

    ends_here : ends_in s ≡ cond (ended_hot (tick_hot h x)) (Some (frame_of s₀ (tick_hot h x))) None
    unfolding ends_in tick_hot
    ends_here = byte_ends (start s) (started_hot h x) (starts s h t)

    ticks_unreported : ended_hot (tick_hot h x) ≡ false → Unreported (tick_hot h x)
    unfolding tick_hot
    ticks_unreported = passes_unreported (start s) (started_hot h x) (starts s h t) (starts_unreported s h t unreported)

  -- ---- the machine's progress and the run on numbers say the same
  record Agree (p : Progress) (r : Ran) : Type 0 where
    passed : p.passed ≡ r.passed
    ended : p.ended ≡ ended_by s₀ r
    unreported : r.ended ≡ false → Unreported r.hot
    clock : p.state.clock ≡ s₀.clock + r.passed
    tied : Tied s₀ p.state r.hot

  agree_next : (p : Progress) (r : Ran) → Agree p r → Agree (onward p) (onward_hot r x)
  agree_next p r a = by_end r.ended p.ended refl a.ended
    where
      by_end : (b : Bool) (e : Option Frame) → r.ended ≡ b → e ≡ ended_by s₀ r → Agree (further e p) (further_hot b r x)
      by_end true e q g = let z : e ≡ Some (frame_of s₀ r.hot) = g ∙ rw q refl in rw z a
      by_end false e q g =
          let u = a.unreported q in
          let z : e ≡ None = g ∙ rw q refl in
          rw z
          (record {
            passed = ap suc a.passed;
            ended = ends_here p.state r.hot a.tied u;
            unreported = ticks_unreported p.state r.hot a.tied u;
            clock = byte_clock p.state ∙ omega (arith, a.clock);
            tied = ticks p.state r.hot a.tied u;
          })

  -- ---- the port's own numbers
  by_owner : (o : Owner) → Owned (sender_by o) o
  by_owner (shaped A) = refl
  by_owner (shaped B) = refl
  by_owner unshaped = refl

  sent_by : (o : Owner) (f : Frame) (left : ℕ) → Sending f left ≡ wire_by (sender_by o) f left
  sent_by (shaped A) f left = refl
  sent_by (shaped B) f left = refl
  sent_by unshaped f left = refl

  begins : Tied s₀ s₀ (hot_of s₀)
  unfolding hot_of
  begins =
      record {
        table = refl;
        bounds = refl;
        last = refl;
        credita = refl;
        creditb = refl;
        a = refl;
        b = refl;
        best = refl;
        waitsa = refl;
        waitsb = refl;
        waitsbest = refl;
        idle = λ _. refl;
        wire = by_wire s₀.wire;
        owned = owned_by s₀.wire;
      }
    where
      by_wire : (w : Wire) → w ≡ wire_by (sender_on s₀ w) (frame_on w) (left_on w)
      by_wire Free = refl
      by_wire (Sending f left) = sent_by (owner s₀.table f) f left

      owned_by : (w : Wire) → Owned (sender_on s₀ w) (owner s₀.table (frame_on w))
      owned_by Free = refl
      owned_by (Sending f left) = by_owner (owner s₀.table f)

  begins_unreported : Unreported (hot_of s₀)
  unfolding hot_of
  begins_unreported m = absurd (false≢true m)

  agrees : (n : ℕ) → Agree (progress n s₀) (run_hot n (hot_of s₀) x)
  unfolding progress run_hot
  agrees zero = record { passed = refl; ended = refl; unreported = λ _. begins_unreported; clock = omega arith; tied = begins }
  agrees (suc n) = agree_next (progress n s₀) (run_hot n (hot_of s₀) x) (agrees n)

same_state : (s : State) {t : Contents} {bs : List ℕ} {now : ℕ} {ca cb : ℤ} {a b best : List Frame} {last : List Instant} {w : Wire} → s.table ≡ t → s.bounds ≡ bs → s.clock ≡ now → ca ≡ s.credita → cb ≡ s.creditb → s.a ≡ a → s.b ≡ b → s.best ≡ best → s.last ≡ last → s.wire ≡ w → s ≡ record { table = t; bounds = bs; clock = now; credita = ca; creditb = cb; a = a; b = b; best = best; last = last; wire = w }
same_state s et ebs ec ea eb qa qb qbest el ew = rw (← et, ← ebs, ← ec, ea, eb, ← qa, ← qb, ← qbest, ← el, ← ew) refl

-- byte-times on a port's numbers are the machine's byte-times
pub as_machine : AsMachine
unfolding after_run
as_machine s f n =
    let g = agrees s f n in
    let t = g.tied in
    record { passed = g.passed; ended = g.ended; state = same_state (progress n s).state t.table t.bounds g.clock t.credita t.creditb t.a t.b t.best t.last t.wire }
