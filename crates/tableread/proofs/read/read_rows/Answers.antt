-- `tableread::read::read_rows` meets its contract: after i turns the first i rows have passed and stand in the table, and the next one starts at the place.
use Prim.Native.Nat.{ℕ}
use mathlib.Core.List.{List}
use mathlib.Core.Path.{◌≡◌, refl, sym, ◌∙◌, ap}
use native.Mathlib.Omega.{arith}
use Rattle.table.specs.declared.Table.{Table}
use Rattle.tablefile.specs.declared.Edition.{Edition}
use Rattle.tablefile.specs.Reading.{map_of, row, row_from, outcome_of}
use Rattle.tablefile.specs.Layout.{row_size}
use Rattle.tableread.specs.Results.{loaded}
use Rattle.tableread.proofs.Faults.{handed_on}
use Rattle.tableread.proofs.Files.{refused_row, bytes_left, none_left}
use Rattle.tableread.proofs.Turns.{part_is, begins, inside, goes_on, ends_at}
use Rattle.tableread.proofs.Headers.{few_rows}
use Rattle.tableread.proofs.read.read_rows.Goals as goal

-- the part says what the row at the place does
same_row : {e ed : Edition} {p s : List ℕ} {q at : ℕ} → e ≡ ed → p ≡ s → q ≡ at → row e p q ≡ row ed s at
same_row ee ep eq = rw (ee, ep, eq) refl

same_values : {e ed : Edition} {p s : List ℕ} → e ≡ ed → p ≡ s → row_from e p ≡ row_from ed s
same_values ee ep = rw (ee, ep) refl

pub loop-i-init : goal.loop-i-init
loop-i-init c = begins _ _ c.requires.s_value c.requires.start_value

pub returns-in_err-fault : goal.returns-in_err-fault
returns-in_err-fault c =
    let wrong = sym (same_row c.new-part.ensures.edition c.new-part.ensures.bytes c.new-part.ensures.at) ∙ sym c.fault.ensures ∙ ap outcome_of c.in_err-fault.was in
    refused_row _ _ _ (ap (loaded c.args.edition) (handed_on c.from_residual.result c.from_residual.ensures.1)) c.requires.s_value (ends_at _ c.args.s.now c.loop-i.invariant (part_is c.args.s.now c.loop-i.at) (omega (arith, ap (λ (t : Table). t.count) c.requires.start_value)) wrong)

pub row-requires : goal.row-requires
row-requires c = sym c.fault.ensures ∙ ap outcome_of c.in_ok-fault.was

pub bounds-table-i : goal.bounds-table-i
bounds-table-i c = omega (arith, few_rows _ _ c.requires.s_value, ap (λ (t : Table). t.count) c.requires.start_value)

pub overflow_add-at : goal.overflow_add-at
overflow_add-at c =
    let fine = sym (same_row c.new-part.ensures.edition c.new-part.ensures.bytes c.new-part.ensures.at) ∙ sym c.fault.ensures ∙ ap outcome_of c.in_ok-fault.was in
    omega (arith, inside _ c.args.s.now c.loop-i.invariant (part_is c.args.s.now c.loop-i.at) fine)

pub loop-i-preserved : goal.loop-i-preserved
loop-i-preserved c =
    let fine = sym (same_row c.new-part.ensures.edition c.new-part.ensures.bytes c.new-part.ensures.at) ∙ sym c.fault.ensures ∙ ap outcome_of c.in_ok-fault.was in
    let count = ap (λ (t : Table). t.count) c.requires.start_value in
    goes_on _ c.args.s.now c.loop-i.invariant (part_is c.args.s.now c.loop-i.at) (omega (arith, count)) (omega (arith, count, few_rows _ _ c.requires.s_value))
    (c.row.ensures ∙ same_values c.new-part.ensures.edition c.new-part.ensures.bytes) fine (c.row_size-at.ensures.value ∙ ap row_size (c.new-part.result.mapped ∙ ap map_of c.new-part.ensures.bytes))

pub returns-in_err-check : goal.returns-in_err-check
returns-in_err-check c =
    bytes_left _ _ c.requires.s_value c.loop-i.invariant (omega (arith, ap (λ (t : Table). t.count) c.requires.start_value)) _ (ap (loaded c.args.edition) (handed_on c.from_residual-in_err-check.result c.from_residual-in_err-check.ensures.1)) (sym (ap outcome_of c.in_err-check.was) ∙ c.check.ensures)

pub returns : goal.returns
returns c =
    none_left _ _ c.requires.s_value c.loop-i.invariant (omega (arith, ap (λ (t : Table). t.count) c.requires.start_value)) (sym (ap outcome_of c.in_ok-check.was) ∙ c.check.ensures)
