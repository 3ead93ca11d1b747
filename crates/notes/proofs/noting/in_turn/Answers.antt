-- `notes::noting::in_turn` meets its contract, test by test.
use Prim.Native.Nat.{ℕ, ◌+◌, ◌-◌, ◌≤◌, ◌<◌}
use mathlib.Core.Bool.{Bool, true, false}
use mathlib.Core.Path.{◌≡◌, refl, sym}
use native.Mathlib.Omega.{arith}
use lib.Dec.{leb, eqb}
use borrow.Author.Tests.{leb-true, leb-false, le-leb, lt-leb, eq-eqb, ne_eqb}
use Rattle.table.specs.declared.Row.{Row}
use Rattle.table.specs.Wire.{period_of}
use Rattle.notes.specs.Notes.{in_turn}
use Rattle.notes.proofs.noting.in_turn.Goals as goal

-- a distance is a sum where the later comes later
distance : (x y p : ℕ) → y ≤ x → leb p (x - y) ≡ leb (y + p) x
distance x y p h = go (leb p (x - y)) refl
  where
    go : (b : Bool) → leb p (x - y) ≡ b → b ≡ leb (y + p) x
    go true e = sym (le-leb (y + p) x (omega (arith, leb-true p (x - y) e)))
    go false e = sym (lt-leb (y + p) x (omega (arith, leb-false p (x - y) e)))

module _ (r : Row) (n y x : ℕ) where
  first : n ≡ 0 → eqb n 0 ≡ in_turn (period_of r) n y x
  unfolding in_turn
  first z = rw (eq-eqb n 0 z) refl

  module _ (some : n ≡ 0 → ⊥) where
    earlier : x < y → leb y x ≡ in_turn (period_of r) n y x
    unfolding in_turn
    earlier h = rw (ne_eqb n 0 some, lt-leb y x h, lt-leb (y + period_of r) x (omega arith)) refl

    later : y ≤ x → {p : ℕ} → p ≡ period_of r → leb p (x - y) ≡ in_turn (period_of r) n y x
    unfolding in_turn
    later h e = rw (ne_eqb n 0 some, ← e) (distance x y _ h)

pub returns-then-before-eq0 : goal.returns-then-before-eq0
returns-then-before-eq0 c = first c.args.row c.args.before.count c.args.before.newest c.args.taken c.if-before-eq0.true

pub returns-then-before-taken : goal.returns-then-before-taken
returns-then-before-taken c =
    later c.args.row c.args.before.count c.args.before.newest c.args.taken c.if-before-eq0.false c.if-before-taken.true c.period.ensures.value

pub returns-else-before-taken : goal.returns-else-before-taken
returns-else-before-taken c =
    earlier c.args.row c.args.before.count c.args.before.newest c.args.taken c.if-before-eq0.false c.if-before-taken.false
