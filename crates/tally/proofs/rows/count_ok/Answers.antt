-- `tally::rows::count_ok` meets its contract: so many frames are too many exactly if the periods between them are as long as the limit.
use Prim.Native.Nat.{ℕ, suc, ◌-◌, ◌*◌, ◌≤◌, ◌<◌}
use mathlib.Core.Bool.{Bool, true, false, cond, not}
use mathlib.Core.Logic.{⊎_elim}
use mathlib.Core.Path.{◌≡◌, refl, ◌∙◌, ap}
use native.Mathlib.Nat.{mul-le-mul, eq-zero-or-pos}
use native.Mathlib.Omega.{arith}
use lib.Dec.{ltb, eqb}
use mir.Syntax.{w64}
use mir.Val.{Fits}
use borrow.Author.Tests.{lt-ltb, le-ltb, ne_eqb}
use Rattle.std.specs.declared.option.Option.{Option}
use Rattle.std.specs.declared.option.Option.TheVariants.{Some, None}
use Rattle.table.specs.declared.Row.{Row}
use Rattle.table.specs.Limits.{any_period}
use Rattle.table.specs.Wire.{period_of}
use Rattle.table.specs.Rows.{is_there}
use Rattle.table.proofs.Laws.{fails, holds}
use Rattle.machine.specs.State.{instant_of}
use Rattle.tally.specs.Rows.{in_limit}
use Rattle.tally.specs.Steps.{count_test}
use Rattle.tally.proofs.rows.count_ok.Goals.{Else-not-is_there}
use Rattle.tally.proofs.rows.count_ok.Goals as goal

module _ (n x : ℕ) (l : Option ℕ) (limit : ℕ) (r : Row) where
  -- the test of a row in use
  abbrev asked : Bool
  asked = cond (is_there r) (count_test n x (instant_of l) limit (period_of r)) true

  empty : is_there r ≡ false → true ≡ asked
  empty e = rw e refl

  module _ (there : is_there r ≡ true) where
    no_frame_lem : n ≡ 0 → true ≡ asked
    unfolding count_test
    no_frame_lem e = rw (there, e) refl

    module _ (some : n ≡ 0 → ⊥) {p : ℕ} (is : p ≡ period_of r) where
      counted : n ≡ suc (n - 1)
      counted = ⊎_elim (λ z. absurd (some z)) (λ h. omega arith) (eq-zero-or-pos n)

      by-periods : in_limit n (period_of r) limit ≡ ltb ((n - 1) * p) limit
      by-periods = ap (λ (m : ℕ). in_limit m (period_of r) limit) counted ∙ rw is refl

      too_many : limit ≤ (n - 1) * p → false ≡ asked
      unfolding count_test
      too_many h = rw (there, by-periods, le-ltb ((n - 1) * p) limit h) refl

      module _ (h : (n - 1) * p < limit) where
        known : {y : ℕ} → l ≡ Some y → eqb y x ≡ asked
        unfolding count_test
        known e = rw (there, by-periods, lt-ltb ((n - 1) * p) limit h, ne_eqb n 0 some, e) refl

        unknown : l ≡ None → false ≡ asked
        unfolding count_test
        unknown e = rw (there, by-periods, lt-ltb ((n - 1) * p) limit h, ne_eqb n 0 some, e) refl

-- the product is far inside the numbers of the machine
fits : (n p : ℕ) → n ≤ 255 → p ≤ any_period → Fits w64 (n * p)
fits n p h short = let most : n * p ≤ 255 * any_period = mul-le-mul h short in record { fits = omega arith }

-- a row in use is there
there : (c : Else-not-is_there) → is_there c.args.row ≡ true
there c = holds c.is_there.ensures (ap not c.if-not-is_there.false)

pub returns-then-not-is_there : goal.returns-then-not-is_there
returns-then-not-is_there c =
    empty c.args.noted.count c.args.noted.newest c.args.last c.args.limit c.args.row (fails c.is_there.ensures (ap not c.if-not-is_there.true))

pub returns-then-noted-eq0 : goal.returns-then-noted-eq0
returns-then-noted-eq0 c =
    no_frame_lem c.args.noted.count c.args.noted.newest c.args.last c.args.limit c.args.row (there (goal.at.returns-then-noted-eq0 c).Else-not-is_there) c.if-noted-eq0.true

pub overflow_mul-more : goal.overflow_mul-more
overflow_mul-more c = fits (c.args.noted.count - 1) c.period.result (omega (arith, c.requires)) c.period.ensures.small

pub returns-then-limit-more : goal.returns-then-limit-more
returns-then-limit-more c =
    too_many c.args.noted.count c.args.noted.newest c.args.last c.args.limit c.args.row (there (goal.at.returns-then-limit-more c).Else-not-is_there) c.if-noted-eq0.false c.period.ensures.value c.if-limit-more.true

pub returns-in-Some : goal.returns-in-Some
returns-in-Some c =
    known c.args.noted.count c.args.noted.newest c.args.last c.args.limit c.args.row (there (goal.at.returns-in-Some c).Else-not-is_there) c.if-noted-eq0.false c.period.ensures.value c.if-limit-more.false c.in-Some.is

pub returns-in-None : goal.returns-in-None
returns-in-None c =
    unknown c.args.noted.count c.args.noted.newest c.args.last c.args.limit c.args.row (there (goal.at.returns-in-None c).Else-not-is_there) c.if-noted-eq0.false c.period.ensures.value c.if-limit-more.false c.in-None.is
