-- `tally::rows::no_row_frame` meets its contract, test by test.
use Prim.Native.Nat.{ℕ, ◌≤◌, ◌<◌}
use mathlib.Core.Bool.{true, false}
use mathlib.Core.Path.{◌≡◌, refl}
use native.Mathlib.Omega.{arith}
use lib.Dec.{leb}
use borrow.Author.Tests.{eq-eqb, ne_eqb}
use Rattle.table.specs.Limits.{most_rows}
use Rattle.machine.specs.declared.Frame.{Frame}
use Rattle.machine.specs.declared.Wire.{Wire}
use Rattle.machine.specs.declared.Wire.TheVariants.{Free, Sending}
use Rattle.tally.specs.Rows.{no_row_frames}
use Rattle.tally.proofs.rows.no_row_frame.Goals.{then-a-gt0-via-then-a-gt0, then-a-gt0-via-else-a-gt0+then-b-gt0}
use Rattle.tally.proofs.rows.no_row_frame.Goals as goal

module _ (w : Wire) (a b : ℕ) where
  some-a : 0 < a → false ≡ no_row_frames w a b
  unfolding no_row_frames
  some-a h = rw (ne_eqb a 0 (λ z. omega arith)) refl

  module _ (za : a ≤ 0) where
    some-b : 0 < b → false ≡ no_row_frames w a b
    unfolding no_row_frames
    some-b h = rw (eq-eqb a 0 (omega arith), ne_eqb b 0 (λ z. omega arith)) refl

    module _ (zb : b ≤ 0) where
      free : w ≡ Free → true ≡ no_row_frames w a b
      unfolding no_row_frames
      free e = rw (eq-eqb a 0 (omega arith), eq-eqb b 0 (omega arith), e) refl

      sends : (f : Frame) (left : ℕ) → w ≡ Sending f left → leb most_rows f.source ≡ no_row_frames w a b
      unfolding no_row_frames
      sends f left e = rw (eq-eqb a 0 (omega arith), eq-eqb b 0 (omega arith), e) refl

pub returns-then-a-gt0 : goal.returns-then-a-gt0
returns-then-a-gt0 c =
    elim c.then-a-gt0.branch [
      | then-a-gt0-via-then-a-gt0 w ↦ some-a c.args.w c.args.a c.args.b w.if-a-gt0.true
      | then-a-gt0-via-else-a-gt0+then-b-gt0 w ↦ some-b c.args.w c.args.a c.args.b w.if-a-gt0.false w.if-b-gt0.true
    ]

pub returns-in-Free : goal.returns-in-Free
returns-in-Free c =
    free c.args.w c.args.a c.args.b c.if-a-gt0.false c.if-b-gt0.false c.in-Free.is

pub returns-in-Sending : goal.returns-in-Sending
returns-in-Sending c =
    sends c.args.w c.args.a c.args.b c.if-a-gt0.false c.if-b-gt0.false c.in-Sending.f c.in-Sending.field-1 c.in-Sending.is
