-- `tableread::read::read_header` meets its contract: the checks of the header are made in their order, and the first that refuses decides.
use mathlib.Core.Path.{◌≡◌, ◌∙◌, ap}
use mathlib.Core.Bool.{◌&&◌}
use lib.Dec.{leb}
use Rattle.std.proofs.Common.{rules}
use Rattle.table.specs.declared.Header.{Header}
use Rattle.table.specs.Limits.{most_rows, most_slope, most_payload}
use Rattle.table.specs.Checks.{unless}
use Rattle.tablefile.specs.Reading.{row_count, header}
use Rattle.tableread.proofs.Faults.{alone, stop, pass}
use Rattle.tableread.proofs.read.read_header.Goals as goal

pub returns-in_err-check : goal.returns-in_err-check
unfolding header
returns-in_err-check c =
    stop c.from_residual.result _ c.from_residual.ensures.1 c.in_err-check.was c.check.ensures

pub returns-in_err-check-2 : goal.returns-in_err-check-2
unfolding header
returns-in_err-check-2 c =
    pass _ c.in_ok-check.was c.check.ensures (stop c.from_residual-in_err-check-2.result _ c.from_residual-in_err-check-2.ensures.1 c.in_err-check-2.was (c.check-2.ensures ∙ ap (λ b. unless b 2 0) c.opens_as.ensures))

pub returns-in_err-check-3 : goal.returns-in_err-check-3
unfolding header
returns-in_err-check-3 c =
    pass _ c.in_ok-check.was c.check.ensures (pass _ c.in_ok-check-2.was (c.check-2.ensures ∙ ap (λ b. unless b 2 0) c.opens_as.ensures) (stop c.from_residual-in_err-check-3.result _ c.from_residual-in_err-check-3.ensures.1 c.in_err-check-3.was (c.check-3.ensures ∙ ap (λ (h : Header). unless (leb h.idlea most_slope) 5 4) c.header_of-h.ensures)))

pub returns-in_err-check-4 : goal.returns-in_err-check-4
unfolding header
returns-in_err-check-4 c =
    pass _ c.in_ok-check.was c.check.ensures (pass _ c.in_ok-check-2.was (c.check-2.ensures ∙ ap (λ b. unless b 2 0) c.opens_as.ensures) (pass _ c.in_ok-check-3.was (c.check-3.ensures ∙ ap (λ (h : Header). unless (leb h.idlea most_slope) 5 4) c.header_of-h.ensures) (stop c.from_residual-in_err-check-4.result _ c.from_residual-in_err-check-4.ensures.1 c.in_err-check-4.was (c.check-4.ensures ∙ ap (λ (h : Header). unless (leb h.idleb most_slope) 5 8) c.header_of-h.ensures))))

pub returns-in_err-check-5 : goal.returns-in_err-check-5
unfolding header
returns-in_err-check-5 c =
    pass _ c.in_ok-check.was c.check.ensures (pass _ c.in_ok-check-2.was (c.check-2.ensures ∙ ap (λ b. unless b 2 0) c.opens_as.ensures) (pass _ c.in_ok-check-3.was (c.check-3.ensures ∙ ap (λ (h : Header). unless (leb h.idlea most_slope) 5 4) c.header_of-h.ensures) (pass _ c.in_ok-check-4.was (c.check-4.ensures ∙ ap (λ (h : Header). unless (leb h.idleb most_slope) 5 8) c.header_of-h.ensures) (stop c.from_residual-in_err-check-5.result _ c.from_residual-in_err-check-5.ensures.1 c.in_err-check-5.was (c.check-5.ensures ∙ ap (λ (h : Header). unless (leb h.payload most_payload) 5 12) c.header_of-h.ensures)))))

counted : (c : goal.After-check-6) → c.contains.result ≡ (leb 1 (row_count c.args.s.now) && leb (row_count c.args.s.now) most_rows)
counted c = search (rules, c.contains.ensures.value, c.contains.ensures.cases)

pub returns : goal.returns
unfolding header
returns c =
    pass _ c.in_ok-check.was c.check.ensures (pass _ c.in_ok-check-2.was (c.check-2.ensures ∙ ap (λ b. unless b 2 0) c.opens_as.ensures) (pass _ c.in_ok-check-3.was (c.check-3.ensures ∙ ap (λ (h : Header). unless (leb h.idlea most_slope) 5 4) c.header_of-h.ensures) (pass _ c.in_ok-check-4.was (c.check-4.ensures ∙ ap (λ (h : Header). unless (leb h.idleb most_slope) 5 8) c.header_of-h.ensures) (pass _ c.in_ok-check-5.was (c.check-5.ensures ∙ ap (λ (h : Header). unless (leb h.payload most_payload) 5 12) c.header_of-h.ensures) (c.check-6.ensures ∙ ap (λ b. unless b 3 14) (counted c) ∙ alone _)))))
