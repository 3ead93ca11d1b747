-- `record::check::instants_ok` meets its contract: the instants from i on decide.
use Prim.Native.Nat.{ℕ, ◌≤◌, ◌<◌}
use mathlib.Core.Bool.{Bool, not}
use mathlib.Core.List.{List}
use mathlib.Core.Path.{◌≡◌, refl, sym, ◌∙◌, ap}
use native.Mathlib.Omega.{arith}
use lib.ListN.{length, get_or, take, length-take}
use lib.Seq.{get_or-take}
use Rattle.std.specs.declared.option.Option.{Option}
use Rattle.std.specs.declared.option.Option.TheVariants.{None}
use Rattle.machine.specs.State.{Instant, never}
use Rattle.machine.specs.Record.{not_after}
use Rattle.record.specs.Steps.{instant_if, instants_by}
use Rattle.record.proofs.Walk.{by_length, by_at, late_here, past_here, past_all}
use Rattle.record.proofs.check.instants_ok.Goals.{In-loop-i, After-instant_ok}
use Rattle.record.proofs.check.instants_ok.Goals as goal

-- the instants of the first n numbers
abbrev instants : ℕ → List ℕ → List (Option ℕ) → List Instant
instants n made last = instants_by (take n made) last

counted : (n : ℕ) (made : List ℕ) (last : List (Option ℕ)) → n ≤ length made → length (instants n made last) ≡ n
counted n made last h = by_length (take n made) last ∙ rw length-take (omega arith)

by-bound : (n : ℕ) (made : List ℕ) (last : List (Option ℕ)) (time k : ℕ) → n ≤ length made → k < n → {r : Bool} → r ≡ not_after time (instant_if (get_or made k 0) (get_or last k None)) → r ≡ not_after time (get_or (instants n made last) k never)
by-bound n made last time k h l e = rw (by_at (take n made) last k (rw length-take (omega arith)), get_or-take n made k 0 l) e

-- a turn of the loop: what is told of its instant
inside : (c : In-loop-i) → c.loop-i.i < length (instants c.args.rows c.args.made.now c.args.last.now)
inside c = rw (counted c.args.rows c.args.made.now c.args.last.now c.requires.rows_in_bounds) c.loop-i-test.true

told : (c : After-instant_ok) → c.instant_ok.result ≡ not_after c.args.clock (get_or (instants c.args.rows c.args.made.now c.args.last.now) c.loop-i.i never)
told c = by-bound c.args.rows c.args.made.now c.args.last.now c.args.clock c.loop-i.i c.requires.rows_in_bounds c.loop-i-test.true c.instant_ok.ensures

pub loop-i-init : goal.loop-i-init
loop-i-init c = (omega arith, refl)

pub returns-then-not-instant_ok : goal.returns-then-not-instant_ok
returns-then-not-instant_ok c =
    sym (late_here c.args.clock (instants c.args.rows c.args.made.now c.args.last.now) c.loop-i.i (inside (goal.at.returns-then-not-instant_ok c).In-loop-i) (told (goal.at.returns-then-not-instant_ok c).After-instant_ok) (ap not c.if-not-instant_ok.true)) ∙ c.loop-i.invariant.1

pub loop-i-preserved : goal.loop-i-preserved
loop-i-preserved c =
    (omega arith, sym (past_here c.args.clock (instants c.args.rows c.args.made.now c.args.last.now) c.loop-i.i (inside (goal.at.loop-i-preserved c).In-loop-i) (told (goal.at.loop-i-preserved c).After-instant_ok) (ap not c.if-not-instant_ok.false)) ∙ c.loop-i.invariant.1)

pub returns : goal.returns
returns c =
    sym (past_all c.args.clock (instants c.args.rows c.args.made.now c.args.last.now) c.loop-i.i (rw (counted c.args.rows c.args.made.now c.args.last.now c.requires.rows_in_bounds) c.loop-i-test.false)) ∙ c.loop-i.invariant.1
