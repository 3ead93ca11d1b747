-- A stretch, byte-time after byte-time: what a turn of its loop finds and leaves.
use Prim.Native.Nat.{ℕ, ◌+◌, ◌-◌, ◌*◌, ◌≤◌, ◌<◌}
use mathlib.Core.Bool.{Bool, true, false, ◌&&◌, false≢true}
use mathlib.Core.Path.{◌≡◌, refl, sym, ◌∙◌, ap}
use native.Mathlib.Numerals.{add-one}
use native.Mathlib.Omega.{arith}
use lib.IntN.{ℤ}
use lib.Dec.{leb, eqb}
use lib.Signed.{mag}
use borrow.Author.Tests.{lt-leb, eq-eqb, ne_eqb}
use Rattle.table.specs.Limits.{D, left_at_report}
use Rattle.machine.specs.Limits.{most_steps}
use Rattle.bytetime.specs.declared.Hot.{Hot}
use Rattle.bytetime.specs.declared.Fixed.{Fixed}
use Rattle.bytetime.specs.declared.Ran.{Ran}
use Rattle.bytetime.specs.Bytes.{credit_after, is_a, is_b, is_nobody, ready_by, next_by, goes, on_free, started_hot, left_after, hot_with, freed, freed_if_over, passed_hot, tick_hot, ended_hot, run_hot, wide, far, Near, ran_with, Stretch}
use Rattle.bytetime.proofs.Moves.{holds, near_run, nearer, no_run, one_more, run_on, behind, run_started}

module _ (h : Hot) (x : Fixed) where
  -- i byte-times have passed, no frame was reported or is over, and none can start
  pub record Turn (i : ℕ) (ca cb : ℤ) (left : ℕ) : Type 0 where
    pub ran : run_hot i h x ≡ ran_with h ca cb left i false
    pub stays : started_hot (hot_with h ca cb left) x ≡ hot_with h ca cb left

  pub first_turn : started_hot h x ≡ h → {ca cb : ℤ} → ca ≡ h.credita → cb ≡ h.creditb → Turn 0 ca cb h.left
  first_turn s e f = rw (e, f) (record { ran = no_run h x; stays = s })

  module _ {i : ℕ} {ca cb : ℤ} {left : ℕ} (t : Turn i ca cb left) where
    -- credits do not go far
    near_turn : i ≤ most_steps → Near wide h x → Near far (hot_with h ca cb left) x
    near_turn few n =
        let v : Near (wide + i * (D + 1)) (ran_with h ca cb left i false).hot x = rw t.ran at (near_run i n) in
        nearer (omega arith) v

    pub near_a : i ≤ most_steps → Near wide h x → mag ca ≤ far
    near_a few n = (near_turn few n).credita

    pub near_b : i ≤ most_steps → Near wide h x → mag cb ≤ far
    near_b few n = (near_turn few n).creditb

    -- a byte-time passes
    module _ {a b : Bool} {ra rb : ℤ} (is_a : a ≡ is_a h.sender) (is_b_lem : b ≡ is_b h.sender) (ea : ra ≡ credit_after a (a && leb 2 left) h.waitsa x.idlea (D - x.idlea) ca) (eb : rb ≡ credit_after b (b && leb 2 left) h.waitsb x.idleb (D - x.idleb) cb) where
      one_passes : {l : ℕ} → l ≡ left_after (is_nobody h.sender) left → freed_if_over (hot_with h ra rb l) ≡ tick_hot (hot_with h ca cb left) x
      unfolding tick_hot passed_hot
      one_passes el = rw (t.stays, ea, eb, is_a, is_b_lem, el) refl

      further : (l : ℕ) → l ≡ left_after (is_nobody h.sender) left → {g : Hot} → g ≡ freed_if_over (hot_with h ra rb l) → {e : Bool} → e ≡ ended_hot g → run_hot (i + 1) h x ≡ record { hot = g; passed = i + 1; ended = e }
      further l el eg ee = rw add-one (one_more i h (hot_with h ca cb left) _ x t.ran (eg ∙ one_passes el) ee)

      -- on a free wire nothing ends
      module _ (free : is_nobody h.sender ≡ true) where
        pub free_further : run_hot (i + 1) h x ≡ ran_with h ra rb left (i + 1) false
        unfolding ended_hot freed_if_over
        free_further = further left (rw free refl) (rw free refl) (rw free refl)

      -- after a frame's last byte nobody has the wire, and before that it is reported once
      module _ (sends : is_nobody h.sender ≡ false) where
        pub sends_last : left ≤ 1 → run_hot (i + 1) h x ≡ ran_with (freed h) ra rb 0 (i + 1) false
        unfolding ended_hot freed_if_over
        sends_last few =
            let e : 0 ≡ left - 1 = omega arith in
            further 0 (rw sends e) (rw sends refl) refl

        sends_on : 1 < left → {e : Bool} → e ≡ eqb (left - 1) left_at_report → run_hot (i + 1) h x ≡ ran_with h ra rb (left - 1) (i + 1) e
        unfolding ended_hot freed_if_over
        sends_on more ee = further (left - 1) (rw sends refl) (rw (sends, lt-leb (left - 1) 0 (omega arith)) refl) (rw sends ee)

        pub sends_reported : 1 < left → left - 1 ≡ left_at_report → run_hot (i + 1) h x ≡ ran_with h ra rb (left - 1) (i + 1) true
        sends_reported more here = sends_on more (sym (eq-eqb (left - 1) left_at_report here))

        pub sends_again : 1 < left → (left - 1 ≡ left_at_report → ⊥) → Turn (i + 1) ra rb (left - 1)
        sends_again more other = record { ran = sends_on more (sym (ne_eqb (left - 1) left_at_report other)); stays = sym (holds (hot_with h ra rb (left - 1)) x sends) }

  -- no best-effort frame waits on a wire that stays free
  no_best : is_nobody h.sender ≡ true → started_hot h x ≡ h → h.waitsbest ≡ false
  unfolding started_hot on_free
  no_best free s = by_heads (ready_by h.credita h.waitsa) (ready_by h.creditb h.waitsb) h.waitsbest refl (ap (λ (g : Hot). is_nobody g.sender) (rw free at s) ∙ free)
    where
      by_heads : (a b best : Bool) → h.waitsbest ≡ best → is_nobody (goes (next_by a b best) h x).sender ≡ true → h.waitsbest ≡ false
      by_heads true b best e q = absurd (false≢true q)
      by_heads false true best e q = absurd (false≢true q)
      by_heads false false true e q = absurd (false≢true q)
      by_heads false false false e q = e

  pub free_again : is_nobody h.sender ≡ true → started_hot h x ≡ h → {i : ℕ} {ra rb : ℤ} {left : ℕ} → run_hot i h x ≡ ran_with h ra rb left i false → ready_by ra h.waitsa ≡ false → ready_by rb h.waitsb ≡ false → Turn i ra rb left
  unfolding started_hot on_free
  free_again free s ran na nb = record { ran = ran; stays = rw (free, na, nb, no_best free s) refl }

  -- what the loop hands back
  pub stretched : (n : ℕ) (g : Hot) {i : ℕ} {ra rb : ℤ} {left : ℕ} {e : Bool} {r : Ran} → 1 ≤ i → i ≤ n → r ≡ ran_with g ra rb left i e → run_hot i h x ≡ ran_with g ra rb left i e → Stretch n h x r
  stretched n g some most er e = rw er (record { some = some; most = most; ran = sym e })

-- a stretch carries a run on
abbrev so_ended : Ran → Bool → Ran
so_ended p b = record { hot = p.hot; passed = p.passed; ended = b }

module _ (n : ℕ) (h s : Hot) (x : Fixed) (p r : Ran) (so_far : p ≡ run_hot p.passed h x) (on : p.ended ≡ false) (starts : s ≡ started_hot p.hot x) (e : Stretch n s x r) where
  from_there : r ≡ run_hot r.passed p.hot x
  from_there = e.ran ∙ rw starts (run_started r.passed p.hot x e.some)

  pub carried : behind p.passed r ≡ run_hot (p.passed + r.passed) h x
  carried = sym (run_on r.passed p.passed h p.hot x (sym so_far ∙ ap (so_ended p) on) ∙ ap (λ (y : Ran). behind p.passed y) (sym from_there))

  pub carried_near : {m : ℕ} → Near m p.hot x → Near (m + r.passed * (D + 1)) r.hot x
  carried_near v = rw (ap (λ (y : Ran). y.hot) from_there) (near_run r.passed v)
