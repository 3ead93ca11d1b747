-- `record::check::numbers_ok` meets its contract: of an accepted table the planner's figures are the definitions' and not large.
use Prim.Native.Nat.{◌-◌, ◌*◌, ◌≤◌, ◌<◌}
use mathlib.Core.Bool.{Bool, true, false, ◌&&◌, and_assoc}
use mathlib.Core.Path.{◌≡◌, refl, sym, ◌∙◌}
use lib.IntN.{ℤ}
use mir.Syntax.{w64}
use mir.Val.{SFits, to_z, of_z}
use mir.Facts.{to_z-of_z}
use borrow.Author.Rules.{rules}
use borrow.Author.Tests.{le-leb, lt-leb}
use Rattle.table.specs.declared.Class.{Class}
use Rattle.table.specs.declared.Class.TheVariants.{A, B}
use Rattle.figures.specs.declared.Lane.{Lane}
use Rattle.table.specs.Rows.{Contents, contents}
use Rattle.table.specs.Limits.{D, most_slope, most_size}
use Rattle.table.specs.Checks.{accepted}
use Rattle.planner.specs.Opening.{standing}
use Rattle.planner.specs.Plan.{lane_of}
use Rattle.planner.proofs.Laws as law
use Rattle.machine.specs.declared.Port.{Port}
use Rattle.machine.specs.Limits.{last_clock}
use Rattle.machine.specs.State.{credit, view}
use Rattle.machine.specs.Record.{between, clock_sound, credit_sound}
use Rattle.record.specs.Steps.{numbers_test}
use Rattle.record.proofs.check.numbers_ok.Goals.{Joined-p-le-LAST_CLOCK, then-p-le-LAST_CLOCK, else-p-le-LAST_CLOCK}
use Rattle.record.proofs.check.numbers_ok.Goals as goal

-- the figures of a class are not large
small : (k : Class) (t : Contents) {l : Lane} → standing t ≡ accepted → l ≡ lane_of k t → (l.idle ≤ most_slope) × ((l.largest ≤ most_size) × (l.blocking ≤ 5 * most_size))
small k t o e =
    let ok = law.standing_if t o in
    rw e (law.idle_most t ok k, (law.largest_most t ok k, law.blocking_most t ok k))

abbrev credit_of : Class → Port → ℤ
credit_of A p = p.credita
credit_of B p = p.creditb

module _ (p : Port) where
  -- a class's credit, which the callee reads back from its bits
  in-view : (k : Class) → credit k (view p) ≡ credit_of k p
  unfolding view
  in-view A = refl
  in-view B = refl

  is-credit : (k : Class) {l : Lane} {r : Bool} → SFits w64 (credit_of k p) → l ≡ lane_of k (contents p.table) → r ≡ between ((D - l.idle) * l.largest) (l.idle * l.blocking) (to_z w64 (of_z w64 (credit_of k p))) → r ≡ credit_sound k (view p)
  unfolding view credit_sound
  is-credit k {l} {r} f e q =
      let plain : r ≡ between ((D - l.idle) * l.largest) (l.idle * l.blocking) (credit_of k p) = rw (to_z-of_z f) at q in
      let known : r ≡ between ((D - (lane_of k (contents p.table)).idle) * (lane_of k (contents p.table)).largest) ((lane_of k (contents p.table)).idle * (lane_of k (contents p.table)).blocking) (credit_of k p) = rw e at plain in
      rw (in-view k) known

  past-last : last_clock < p.clock → false ≡ (clock_sound (view p) && credit_sound A (view p))
  unfolding view clock_sound
  past-last h = rw (lt-leb p.clock last_clock h) refl

  on-time : p.clock ≤ last_clock → {r : Bool} → r ≡ credit_sound A (view p) → r ≡ (clock_sound (view p) && credit_sound A (view p))
  unfolding view clock_sound
  on-time h e = rw (le-leb p.clock last_clock h) e

  by-b : (clock_sound (view p) && credit_sound A (view p)) ≡ true → credit_sound B (view p) ≡ numbers_test (view p)
  unfolding numbers_test
  by-b h = sym (rw (← and_assoc (clock_sound (view p)) (credit_sound A (view p)) (credit_sound B (view p)), h) refl)

  none-by : (clock_sound (view p) && credit_sound A (view p)) ≡ false → false ≡ numbers_test (view p)
  unfolding numbers_test
  none-by h = sym (sym (and_assoc (clock_sound (view p)) (credit_sound A (view p)) (credit_sound B (view p))) ∙ rw h refl)

-- the clock, and the credit of A
told : (c : Joined-p-le-LAST_CLOCK) → c.if-p-le-LAST_CLOCK.value ≡ (clock_sound (view c.args.p.now) && credit_sound A (view c.args.p.now))
told c =
    elim c.if-p-le-LAST_CLOCK.branch [
      | then-p-le-LAST_CLOCK w ↦ w.value-is ∙ on-time c.args.p.now w.if-p-le-LAST_CLOCK.true (is-credit c.args.p.now A (search rules) c.requires.a_value w.credit_ok.ensures)
      | else-p-le-LAST_CLOCK w ↦ w.value-is ∙ lt-leb c.args.p.now.clock last_clock w.if-p-le-LAST_CLOCK.false ∙ past-last c.args.p.now w.if-p-le-LAST_CLOCK.false
    ]

pub credit_ok-requires : goal.credit_ok-requires
credit_ok-requires c =
    let s = small A (contents c.args.p.now.table) c.requires.table_value c.requires.a_value in
    record { idle_le_most_slope = s.0; largest_le_most_size = s.1.0; blocking_bound = s.1.1 }

pub credit_ok-requires-then-credit_ok : goal.credit_ok-requires-then-credit_ok
credit_ok-requires-then-credit_ok c =
    let s = small B (contents c.args.p.now.table) c.requires.table_value c.requires.b_value in
    record { idle_le_most_slope = s.0; largest_le_most_size = s.1.0; blocking_bound = s.1.1 }

pub returns-then-credit_ok : goal.returns-then-credit_ok
returns-then-credit_ok c =
    is-credit c.args.p.now B (search rules) c.requires.b_value c.credit_ok-then-credit_ok.ensures ∙ by-b c.args.p.now (sym (told (goal.at.returns-then-credit_ok c).Joined-p-le-LAST_CLOCK) ∙ c.if-credit_ok.true)

pub returns-else-credit_ok : goal.returns-else-credit_ok
returns-else-credit_ok c =
    c.if-credit_ok.false ∙ none-by c.args.p.now (sym (told (goal.at.returns-else-credit_ok c).Joined-p-le-LAST_CLOCK) ∙ c.if-credit_ok.false)
