-- `patches::tables::is_quiet` meets its contract: a frame makes one part of `quiet` false, and without one the credits decide, which are 0 where their bits are.
use Prim.Native.Nat.{ℕ, zero, suc, ◌-◌, ◌≤◌, ◌<◌}
use mathlib.Core.Bool.{Bool, true, false, true≢false, ◌&&◌}
use mathlib.Core.List.{List, [], ◌∷◌}
use mathlib.Core.Path.{◌≡◌, refl, sym, ◌∙◌, ap}
use native.Mathlib.Omega.{arith}
use lib.Dec.{eqb}
use lib.IntN.{ℤ, pos, negsuc}
use lib.ListN.{length}
use mir.Syntax.{w64}
use mir.Val.{SFits, to_z, of_z}
use mir.Facts.{to_z-of_z}
use borrow.Author.Tests.{eqb-true, ne_eqb}
use Rattle.machine.specs.declared.Frame.{Frame}
use Rattle.machine.specs.declared.Port.{Port}
use Rattle.machine.specs.declared.Wire.{Wire}
use Rattle.machine.specs.declared.Wire.TheVariants.{Free, Sending}
use Rattle.machine.specs.State.{waiting, view}
use Rattle.machine.specs.Calls.{none_in, is_free, is_zero, quiet}
use Rattle.patches.proofs.tables.is_quiet.Goals.{then-p-gt0-via-then-p-gt0, then-p-gt0-via-else-p-gt0+then-p-gt0-2, then-p-gt0-via-else-p-gt0+else-p-gt0-2+then-p-gt0-3, in-Free, in_default, then-matches, else-matches, Joined-matches-2}
use Rattle.patches.proofs.tables.is_quiet.Goals as goal

-- frames that wait, or none
some : (n : ℕ) (xs : List Frame) → 0 < n → none_in (waiting n xs) ≡ false
some zero xs h = absurd (omega arith)
some (suc n) [] h = let e : suc n - 0 ≡ suc n = omega arith in rw e refl
some (suc n) (x ∷ xs) h = refl

none : (n : ℕ) (xs : List Frame) → n ≤ 0 → none_in (waiting n xs) ≡ true
none zero xs h = let e : 0 - length xs ≡ 0 = omega arith in rw e refl
none (suc n) xs h = absurd (omega arith)

-- the bits of a credit are 0 exactly if it is
zero_bits : (z : ℤ) → SFits w64 z → eqb (of_z w64 z) 0 ≡ is_zero z
zero_bits z f = go (eqb (of_z w64 z) 0) refl
  where
    other : (z : ℤ) → eqb (of_z w64 z) 0 ≡ false → false ≡ is_zero z
    other (pos zero) e = absurd (true≢false e)
    other (pos (suc n)) e = sym (ne_eqb (suc n) 0 (λ h. omega arith))
    other (negsuc n) e = refl

    go : (b : Bool) → eqb (of_z w64 z) 0 ≡ b → eqb (of_z w64 z) 0 ≡ is_zero z
    go true e = let h : z ≡ pos 0 = sym (to_z-of_z f) ∙ ap (to_z w64) (eqb-true (of_z w64 z) 0 e) in e ∙ sym (ap is_zero h)
    go false e = e ∙ other z e

module _ (p : Port) where
  a-waits : 0 < p.a.count → false ≡ quiet (view p)
  unfolding quiet view
  a-waits h = rw (some p.a.count p.a.frames h) refl

  module _ (na : p.a.count ≤ 0) where
    b-waits : 0 < p.b.count → false ≡ quiet (view p)
    unfolding quiet view
    b-waits h = rw (none p.a.count p.a.frames na, some p.b.count p.b.frames h) refl

    module _ (nb : p.b.count ≤ 0) where
      best-waits : 0 < p.best.count → false ≡ quiet (view p)
      unfolding quiet view
      best-waits h = rw (none p.a.count p.a.frames na, none p.b.count p.b.frames nb, some p.best.count p.best.frames h) refl

      module _ (nc : p.best.count ≤ 0) where
        by-rest : quiet (view p) ≡ (is_free p.wire && (is_zero p.credita && is_zero p.creditb))
        unfolding quiet view
        by-rest = rw (none p.a.count p.a.frames na, none p.b.count p.b.frames nb, none p.best.count p.best.frames nc) refl

pub returns-then-p-gt0 : goal.returns-then-p-gt0
returns-then-p-gt0 c =
    elim c.then-p-gt0.branch [
      | then-p-gt0-via-then-p-gt0 w ↦ a-waits _ w.if-p-gt0.true
      | then-p-gt0-via-else-p-gt0+then-p-gt0-2 w ↦ b-waits _ w.if-p-gt0.false w.if-p-gt0-2.true
      | then-p-gt0-via-else-p-gt0+else-p-gt0-2+then-p-gt0-3 w ↦ best-waits _ w.if-p-gt0.false w.if-p-gt0-2.false w.if-p-gt0-3.true
    ]

-- the wire, and the credit of A
free : (w : Wire) → w ≡ Free → true ≡ is_free w
free w e = rw e refl

sends : (w : Wire) → (w ≡ Free → ⊥) → false ≡ is_free w
sends Free d = absurd (d refl)
sends (Sending f left) d = refl

told : (c : Joined-matches-2) → c.if-matches.value ≡ (is_free c.args.p.wire && is_zero c.args.p.credita)
told c =
    let wire : c.match-matches.matches ≡ is_free c.args.p.wire =
    elim c.match-matches.branch [
      | in-Free w ↦ w.matches-is ∙ free _ w.in-Free.is
      | in_default w ↦ w.matches-is ∙ sends _ w.in_default.not-Free
    ] in
    let credit : eqb (of_z w64 c.args.p.credita) 0 ≡ is_zero c.args.p.credita = zero_bits c.args.p.credita (record { sfits = c.well_formed.0.1.1.1.1.0.1 }) in
    elim c.if-matches.branch [
      | then-matches v ↦ v.value-is ∙ credit ∙ ap (λ x. x && is_zero c.args.p.credita) (sym v.if-matches.true ∙ wire)
      | else-matches v ↦ v.value-is ∙ v.if-matches.false ∙ ap (λ x. x && is_zero c.args.p.credita) (sym v.if-matches.false ∙ wire)
    ]

-- and that of B
both : (b x y z : Bool) → b ≡ (x && y) → b ≡ true → (x && (y && z)) ≡ z
both b true y z e h = rw (sym e ∙ h) refl
both b false y z e h = absurd (true≢false (sym h ∙ e))

neither : (b x y z : Bool) → b ≡ (x && y) → b ≡ false → (x && (y && z)) ≡ b
neither b true y z e h = rw (sym e ∙ h) (sym h)
neither b false y z e h = sym h

pub returns-then-p-eq0 : goal.returns-then-p-eq0
returns-then-p-eq0 c =
    let p = c.args.p in
    zero_bits p.creditb (record { sfits = c.well_formed.0.1.1.1.1.1.0.1 }) ∙ sym (by-rest p c.if-p-gt0.false c.if-p-gt0-2.false c.if-p-gt0-3.false ∙ both _ (is_free p.wire) (is_zero p.credita) (is_zero p.creditb) (told (goal.at.returns-then-p-eq0 c).Joined-matches-2) c.if-p-eq0.true)

pub returns-else-p-eq0 : goal.returns-else-p-eq0
returns-else-p-eq0 c =
    let p = c.args.p in
    sym (by-rest p c.if-p-gt0.false c.if-p-gt0-2.false c.if-p-gt0-3.false ∙ neither _ (is_free p.wire) (is_zero p.credita) (is_zero p.creditb) (told (goal.at.returns-else-p-eq0 c).Joined-matches-2) c.if-p-eq0.false)
