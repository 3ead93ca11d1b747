-- `sheets::sheet::put_name` meets its contract: a number, and the letter of its class behind a space.
use Prim.Native.Nat.{ℕ, ◌+◌, ◌≤◌}
use mathlib.Core.List.{List, ◌∷◌}
use mathlib.Core.Path.{◌≡◌, refl, ap, ◌∙◌}
use native.Mathlib.Omega.{arith}
use lib.ListN.{length}
use Rattle.table.specs.declared.Class.{Class}
use Rattle.table.specs.declared.Class.TheVariants.{A, B}
use Rattle.texts.specs.Text.{used_by, put_at, Put}
use Rattle.texts.proofs.Laws.{text_put, number_put, then}
use Rattle.sheets.specs.Sheet.{letter_of}
use Rattle.sheets.proofs.sheet.put_name.Goals.{in-A, in-B}
use Rattle.sheets.proofs.sheet.put_name.Goals as goal

letter_put : (k : Class) {at next : ℕ} {before after : List ℕ} → (next ≡ used_by (32 ∷ letter_of k) at before) × (after ≡ put_at (32 ∷ letter_of k) at before) → at + 2 ≤ length before → Put 2 (32 ∷ letter_of k) before at after next
letter_put A p h = text_put p h
letter_put B p h = text_put p h

pub returns : goal.returns
returns c =
    let said : c.match-class.letter.now ≡ 32 ∷ letter_of c.args.class = elim c.match-class.branch [ in-A w ↦ ap (λ x. x.now) w.letter-is ∙ rw w.in-A.is refl | in-B w ↦ ap (λ x. x.now) w.letter-is ∙ rw w.in-B.is refl ] in
    let number = number_put _ (c.put_number-next.ensures.value, c.put_number-next.ensures.out_after) (omega arith) in
    then number (letter_put c.args.class (rw (← said) (c.put.ensures.value, c.put.ensures.out_after)) (omega (arith, number.few, number.long)))
