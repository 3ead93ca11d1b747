-- Laws of the byte-time on numbers: who goes out, how far credits move, and how runs go on.
use Prim.Native.Nat.{ℕ, zero, suc, ◌+◌, ◌-◌, ◌*◌, ◌≤◌}
use mathlib.Core.Bool.{Bool, true, false, cond, ◌&&◌}
use mathlib.Core.Path.{◌≡◌, refl, ◌∙◌, ap}
use native.Mathlib.Omega.{arith}
use lib.Dec.{leb}
use Rattle.table.specs.Limits.{D}
use Rattle.bytetime.specs.declared.Sender.{Sender}
use Rattle.bytetime.specs.declared.Sender.TheVariants.{Nobody, ClassA, ClassB, BestEffort}
use Rattle.bytetime.specs.declared.Hot.{Hot}
use Rattle.bytetime.specs.declared.Fixed.{Fixed}
use Rattle.bytetime.specs.declared.Ran.{Ran}
use Rattle.bytetime.specs.Bytes.{is_a, is_b, is_nobody, ready_by, goes_a, goes_b, goes_best, next_by, goes, on_free, started_hot, byte_off, is_over, freed, freed_if_over, passed_hot, tick_hot, ended_hot, further_hot, onward_hot, start_ran, run_hot, Near}
use Rattle.bytetime.proofs.Signs.{mag_after}

pub holds : (h : Hot) (x : Fixed) → is_nobody h.sender ≡ false → h ≡ started_hot h x
unfolding started_hot
holds h x e = rw e refl

module _ (h : Hot) (x : Fixed) where
  -- what has started does not start again
  free_once : is_nobody h.sender ≡ true → started_hot (on_free h x) x ≡ on_free h x
  unfolding started_hot on_free
  free_once e = by_next (next_by (ready_by h.credita h.waitsa) (ready_by h.creditb h.waitsb) h.waitsbest) refl
    where
      by_next : (w : Sender) → next_by (ready_by h.credita h.waitsa) (ready_by h.creditb h.waitsb) h.waitsbest ≡ w → started_hot (goes w h x) x ≡ goes w h x
      by_next Nobody q = rw (e, q) refl
      by_next ClassA q = refl
      by_next ClassB q = refl
      by_next BestEffort q = refl

  pub starts_once : started_hot (started_hot h x) x ≡ started_hot h x
  unfolding started_hot
  starts_once = by_wire (is_nobody h.sender) refl
    where
      by_wire : (b : Bool) → is_nobody h.sender ≡ b → started_hot (cond b (on_free h x) h) x ≡ cond b (on_free h x) h
      by_wire true e = free_once e
      by_wire false e = rw e refl

-- ---- how far credits move
one_of : (b : Bool) (P : Hot → Type 0) {g h : Hot} → P g → P h → P (cond b g h)
one_of true P p q = p
one_of false P p q = q

near_free : {m : ℕ} {h : Hot} {x : Fixed} → Near m h x → Near m (on_free h x) x
unfolding on_free
near_free {m} {h} {x} n = by_next (next_by (ready_by h.credita h.waitsa) (ready_by h.creditb h.waitsb) h.waitsbest)
  where
    same : (g : Hot) → g.credita ≡ h.credita → g.creditb ≡ h.creditb → Near m g x
    same g e f = record { idlea = n.idlea; idleb = n.idleb; credita = rw e n.credita; creditb = rw f n.creditb }

    by_next : (w : Sender) → Near m (goes w h x) x
    by_next Nobody = n
    by_next ClassA = same (goes_a h x) refl refl
    by_next ClassB = same (goes_b h x) refl refl
    by_next BestEffort = same (goes_best h x) refl refl

pub near_started : {m : ℕ} {h : Hot} {x : Fixed} → Near m h x → Near m (started_hot h x) x
unfolding started_hot
near_started {m} {h} {x} n = one_of (is_nobody h.sender) (λ g. Near m g x) (near_free n) n

near_byte : {m : ℕ} {h : Hot} {x : Fixed} → Near m h x → Near (m + (D + 1)) (byte_off h x) x
near_byte {m} {h} {x} v =
    record {
      idlea = v.idlea;
      idleb = v.idleb;
      credita = omega (arith, v.credita, mag_after (is_a h.sender) (is_a h.sender && leb 2 h.left) h.waitsa x.idlea (D - x.idlea) h.credita {most = D} v.idlea (omega arith));
      creditb = omega (arith, v.creditb, mag_after (is_b h.sender) (is_b h.sender && leb 2 h.left) h.waitsb x.idleb (D - x.idleb) h.creditb {most = D} v.idleb (omega arith));
    }

near_freed : {m : ℕ} {h : Hot} {x : Fixed} → Near m h x → Near m (freed h) x
near_freed v = record { idlea = v.idlea; idleb = v.idleb; credita = v.credita; creditb = v.creditb }

near_passed : {m : ℕ} {h : Hot} {x : Fixed} → Near m h x → Near (m + (D + 1)) (passed_hot h x) x
unfolding passed_hot freed_if_over
near_passed {m} {h} {x} v = one_of (is_over (byte_off h x)) (λ g. Near (m + (D + 1)) g x) (near_freed (near_byte v)) (near_byte v)

near_tick : {m : ℕ} {h : Hot} {x : Fixed} → Near m h x → Near (m + (D + 1)) (tick_hot h x) x
unfolding tick_hot
near_tick v = near_passed (near_started v)

pub nearer : {m k : ℕ} {h : Hot} {x : Fixed} → m ≤ k → Near m h x → Near k h x
nearer e n = record { idlea = n.idlea; idleb = n.idleb; credita = omega (arith, e, n.credita); creditb = omega (arith, e, n.creditb) }

pub near_run : (k : ℕ) {m : ℕ} {h : Hot} {x : Fixed} → Near m h x → Near (m + k * (D + 1)) (run_hot k h x).hot x
unfolding run_hot
near_run zero {m} v = nearer (omega arith) v
near_run (suc k) {m} {h} {x} v = further (run_hot k h x).ended (near_run k v)
  where
    further : (b : Bool) → Near (m + k * (D + 1)) (run_hot k h x).hot x → Near (m + suc k * (D + 1)) (further_hot b (run_hot k h x) x).hot x
    further true w = nearer (omega arith) w
    further false w = nearer (omega arith) (near_tick w)

-- ---- runs
pub no_run : (h : Hot) (x : Fixed) → run_hot 0 h x ≡ start_ran h
unfolding run_hot
no_run h x = refl

-- one byte-time more
pub one_more : (i : ℕ) (h g k : Hot) (x : Fixed) → run_hot i h x ≡ record { hot = g; passed = i; ended = false } → k ≡ tick_hot g x → {e : Bool} → e ≡ ended_hot k → run_hot (suc i) h x ≡ record { hot = k; passed = suc i; ended = e }
unfolding run_hot
one_more i h g k x e f q = ap (λ (r : Ran). onward_hot r x) e ∙ rw (q, f) refl

-- a run which has ended stays
stays_once : (j : ℕ) (h : Hot) (x : Fixed) (r : Ran) → r.ended ≡ true → run_hot j h x ≡ r → run_hot (suc j) h x ≡ r
unfolding run_hot
stays_once j h x r t e = ap (λ (s : Ran). onward_hot s x) e ∙ rw t refl

pub run_stays : (k m n : ℕ) (h : Hot) (x : Fixed) (r : Ran) → n ≡ k + m → r.ended ≡ true → run_hot m h x ≡ r → run_hot n h x ≡ r
run_stays zero m n h x r q t e = let z : n ≡ m = omega (arith, q) in rw z e
run_stays (suc k) m n h x r q t e = let z : n ≡ suc (k + m) = omega (arith, q) in rw z (stays_once (k + m) h x r t (run_stays k m (k + m) h x r refl t e))

-- a run goes on where it stood: k byte-times more
abbrev pub behind : ℕ → Ran → Ran
behind i r = record { hot = r.hot; passed = i + r.passed; ended = r.ended }

pub run_on : (k i : ℕ) (h g : Hot) (x : Fixed) → run_hot i h x ≡ record { hot = g; passed = i; ended = false } → run_hot (i + k) h x ≡ behind i (run_hot k g x)
unfolding run_hot
run_on zero i h g x e = let z : i + 0 ≡ i = omega arith in rw z e
run_on (suc k) i h g x e =
    let z : i + suc k ≡ suc (i + k) = omega arith in
    rw z (ap (λ (r : Ran). onward_hot r x) (run_on k i h g x e) ∙ by_end (run_hot k g x).ended)
  where
    by_end : (b : Bool) → further_hot b (record { hot = (run_hot k g x).hot; passed = i + (run_hot k g x).passed; ended = b }) x ≡ behind i (further_hot b (record { hot = (run_hot k g x).hot; passed = (run_hot k g x).passed; ended = b }) x)
    by_end true = refl
    by_end false = let z : suc (i + (run_hot k g x).passed) ≡ i + suc (run_hot k g x).passed = omega arith in rw z refl

-- the first start may come before the run
tick_started : (h : Hot) (x : Fixed) → tick_hot (started_hot h x) x ≡ tick_hot h x
unfolding tick_hot
tick_started h x = rw (starts_once h x) refl

pub run_started : (k : ℕ) (h : Hot) (x : Fixed) → 1 ≤ k → run_hot k (started_hot h x) x ≡ run_hot k h x
unfolding run_hot
run_started zero h x e = absurd (omega arith)
run_started (suc zero) h x e = rw (tick_started h x) refl
run_started (suc (suc k)) h x e = ap (λ (r : Ran). onward_hot r x) (run_started (suc k) h x (omega arith))

-- no more byte-times pass than are asked for
pub passed_most : (n : ℕ) (h : Hot) (x : Fixed) → (run_hot n h x).passed ≤ n
unfolding run_hot
passed_most zero h x = omega arith
passed_most (suc n) h x = by_end (run_hot n h x).ended (passed_most n h x)
  where
    by_end : (b : Bool) → (run_hot n h x).passed ≤ n → (further_hot b (run_hot n h x) x).passed ≤ suc n
    by_end true e = omega (arith, e)
    by_end false e = omega (arith, e)
