-- `bytetime::run::stretch` meets its contract: when i byte-times have passed the numbers are those of i byte-times.
use Prim.Native.Nat.{ℕ, ◌+◌, ◌-◌, ◌≤◌, ◌<◌, ◌^◌}
use mathlib.Core.Bool.{Bool, true, false, ◌&&◌}
use mathlib.Core.Path.{◌≡◌, refl, sym, ◌∙◌, ap}
use native.Mathlib.Omega.{arith}
use lib.Dec.{leb}
use lib.IntN.{ℤ}
use lib.Signed.{mag}
use mir.Syntax.{w64}
use mir.Val.{to_z, of_z}
use Rattle.std.proofs.Common.{rules}
use Rattle.table.specs.Limits.{D}
use Rattle.bytetime.specs.declared.Hot.{Hot}
use Rattle.bytetime.specs.Bytes.{credit_after, is_a, is_b, is_nobody, run_hot, freed, hot_with, ran_with, far}
use Rattle.bytetime.proofs.Signs.{plain, small}
use Rattle.bytetime.proofs.Turns.{Turn, first_turn, near_a, near_b, free_further, free_again, sends_last, sends_reported, sends_again, stretched}
use Rattle.bytetime.proofs.run.stretch.Goals as goal
use Rattle.bytetime.proofs.run.stretch.Goals.{After-credit_after-in-loop-i, then-free+else-ready+else-ready-2, else-free+else-hot-le1+else-hot-eq-LEFT_AT_REPORT}

-- a credit, which the callee reads back from its bits
read_back : (z : ℤ) → mag z ≤ far → to_z w64 (of_z w64 z) ≡ z
read_back z h = plain (small (omega arith))

again : (z : ℤ) → mag z < 2 ^ 63 → to_z w64 (of_z w64 (to_z w64 (of_z w64 z))) ≡ to_z w64 (of_z w64 z)
again z h = let e : to_z w64 (of_z w64 z) ≡ z = plain (small h) in ap (λ (y : ℤ). to_z w64 (of_z w64 y)) e

-- the byte-time of a turn
module _ (k : After-credit_after-in-loop-i) where
  here : Turn k.args.h k.args.x k.loop-i.i k.loop-i.hot.credita k.loop-i.hot.creditb k.loop-i.hot.left
  here = k.loop-i.invariant.1

  nobody : k.eq-free.result ≡ is_nobody k.args.h.sender
  nobody = search rules

  a-sends : k.eq.result ≡ is_a k.args.h.sender
  a-sends = search rules

  b-sends : k.eq-2.result ≡ is_b k.args.h.sender
  b-sends = search rules

  abbrev ra : ℤ
  ra = to_z w64 (of_z w64 k.credit_after.result)

  abbrev rb : ℤ
  rb = to_z w64 (of_z w64 k.credit_after-in-loop-i.result)

  credit_a : ra ≡ credit_after k.eq.result (k.eq.result && leb 2 k.loop-i.hot.left) k.args.h.waitsa k.args.x.idlea (D - k.args.x.idlea) k.loop-i.hot.credita
  credit_a =
      plain (small k.credit_after.type_inv) ∙ rw (read_back k.loop-i.hot.credita (near_a _ _ here (omega arith) k.requires.near)) at k.credit_after.ensures

  credit_b : rb ≡ credit_after k.eq-2.result (k.eq-2.result && leb 2 k.loop-i.hot.left) k.args.h.waitsb k.args.x.idleb (D - k.args.x.idleb) k.loop-i.hot.creditb
  credit_b =
      plain (small k.credit_after-in-loop-i.type_inv) ∙ rw (read_back k.loop-i.hot.creditb (near_b _ _ here (omega arith) k.requires.near)) at k.credit_after-in-loop-i.ensures

  -- what the turn does not write stays
  as_was : (left : ℕ) → hot_with k.loop-i.hot ra rb left ≡ hot_with k.args.h ra rb left
  as_was left = ap (λ (y : Hot). hot_with y ra rb left) k.loop-i.invariant.0

  ran_as_was : (left : ℕ) (ended : Bool) → ran_with k.loop-i.hot ra rb left (k.loop-i.i + 1) ended ≡ ran_with k.args.h ra rb left (k.loop-i.i + 1) ended
  ran_as_was left ended = ap (λ (y : Hot). ran_with y ra rb left (k.loop-i.i + 1) ended) k.loop-i.invariant.0

  when_free : k.eq-free.result ≡ true → run_hot (k.loop-i.i + 1) k.args.h k.args.x ≡ ran_with k.args.h ra rb k.loop-i.hot.left (k.loop-i.i + 1) false
  when_free e = free_further k.args.h k.args.x here a-sends b-sends credit_a credit_b (sym nobody ∙ e)

pub loop-i-init : goal.loop-i-init
loop-i-init c = (refl, first_turn c.args.h c.args.x c.requires.x_value refl refl)

pub credit_after-requires-clause-credit_bound : goal.credit_after-requires-clause-credit_bound
credit_after-requires-clause-credit_bound c =
    let near : mag c.loop-i.hot.credita ≤ far = near_a _ _ c.loop-i.invariant.1 (omega arith) c.requires.near in
    rw (read_back _ near) near

pub credit_after-requires-in-loop-i-clause-credit_bound : goal.credit_after-requires-in-loop-i-clause-credit_bound
credit_after-requires-in-loop-i-clause-credit_bound c =
    let near : mag c.loop-i.hot.creditb ≤ far = near_b _ _ c.loop-i.invariant.1 (omega arith) c.requires.near in
    rw (read_back _ near) near

pub returns-then-ready : goal.returns-then-ready
returns-then-ready c =
    let k = (goal.at.returns-then-ready c).After-credit_after-in-loop-i in
    stretched c.args.h c.args.x c.args.n c.args.h (omega arith) (omega arith) (ran_as_was k c.loop-i.hot.left false) (when_free k c.if-free.true)

pub returns-then-ready-2 : goal.returns-then-ready-2
returns-then-ready-2 c =
    let k = (goal.at.returns-then-ready-2 c).After-credit_after-in-loop-i in
    stretched c.args.h c.args.x c.args.n c.args.h (omega arith) (omega arith) (ran_as_was k c.loop-i.hot.left false) (when_free k c.if-free.true)

pub returns-then-hot-le1 : goal.returns-then-hot-le1
returns-then-hot-le1 c =
    let k = (goal.at.returns-then-hot-le1 c).After-credit_after-in-loop-i in
    stretched c.args.h c.args.x c.args.n (freed c.args.h) {i = c.loop-i.i + 1} {ra = ra k} {rb = rb k} {left = 0} {e = false} (omega arith) (omega arith)
    (rw (again k.credit_after.result k.credit_after.type_inv, again k.credit_after-in-loop-i.result k.credit_after-in-loop-i.type_inv) (ap (λ (y : Hot). ran_with (freed y) (ra k) (rb k) 0 (c.loop-i.i + 1) false) c.loop-i.invariant.0))
    (sends_last c.args.h c.args.x (here k) (a-sends k) (b-sends k) (credit_a k) (credit_b k) (sym (nobody k) ∙ c.if-free.false) c.if-hot-le1.true)

pub returns-then-hot-eq-LEFT_AT_REPORT : goal.returns-then-hot-eq-LEFT_AT_REPORT
returns-then-hot-eq-LEFT_AT_REPORT c =
    let k = (goal.at.returns-then-hot-eq-LEFT_AT_REPORT c).After-credit_after-in-loop-i in
    stretched c.args.h c.args.x c.args.n c.args.h (omega arith) (omega arith)
    (ran_as_was k (c.loop-i.hot.left - 1) true)
    (sends_reported c.args.h c.args.x (here k) (a-sends k) (b-sends k) (credit_a k) (credit_b k) (sym (nobody k) ∙ c.if-free.false) c.if-hot-le1.false c.if-hot-eq-LEFT_AT_REPORT.true)

pub loop-i-preserved : goal.loop-i-preserved
loop-i-preserved c =
    let k = (goal.at.loop-i-preserved c).After-credit_after-in-loop-i in
    elim c.if-free.branch [
      | then-free+else-ready+else-ready-2 w ↦ rw w.hot-is (as_was k c.loop-i.hot.left, free_again c.args.h c.args.x (sym (nobody k) ∙ w.if-free.true) c.requires.x_value (when_free k w.if-free.true) (rw (again c.credit_after.result c.credit_after.type_inv) at (sym w.ready.ensures ∙ w.if-ready.false)) (rw (again c.credit_after-in-loop-i.result c.credit_after-in-loop-i.type_inv) at (sym w.ready-then-free.ensures ∙ w.if-ready-2.false)))
      | else-free+else-hot-le1+else-hot-eq-LEFT_AT_REPORT w ↦ rw w.hot-is (as_was k (c.loop-i.hot.left - 1), sends_again c.args.h c.args.x (here k) (a-sends k) (b-sends k) (credit_a k) (credit_b k) (sym (nobody k) ∙ w.if-free.false) w.if-hot-le1.false w.if-hot-eq-LEFT_AT_REPORT.false)
    ]
