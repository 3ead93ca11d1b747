-- `tableread::read::Part::period_fault` meets its contract: the tests are those of the period's checks, at its place.
use mathlib.Core.Path.{◌∙◌, ap}
use lib.Dec.{eqb}
use Rattle.table.specs.Ranges.{period_ok}
use Rattle.tablefile.specs.Layout.{Period, stated_of, default_period}
use Rattle.tableread.proofs.Faults.{alone, stop, pass, present_told, judged_told}
use Rattle.tableread.proofs.Values.{row_built}
use Rattle.tableread.proofs.read.Part.period_fault.Goals as goal

pub returns-in_err-presence : goal.returns-in_err-presence
returns-in_err-presence c =
    stop c.from_residual.result _ c.from_residual.ensures.1 c.in_err-presence.was (c.presence.ensures ∙ present_told Period c.args.self.bytes.now _ c.args.self.mapped c.period_stands-stands.ensures c.period_place-place.ensures.value)

pub returns : goal.returns
unfolding default_period
returns c =
    pass _ c.in_ok-presence.was (c.presence.ensures ∙ present_told Period c.args.self.bytes.now _ c.args.self.mapped c.period_stands-stands.ensures c.period_place-place.ensures.value)
    (c.judgement.ensures ∙ judged_told Period c.args.self.bytes.now _ c.args.self.mapped c.period_stands-stands.ensures c.period_place-place.ensures.value c.args.self.edition (λ _. row_built _ c.args.self.bytes.now c.args.self.read) (c.period_ok.ensures ∙ ap period_ok c.stated-period.ensures) (ap (λ n. eqb n c.default_period.result) c.stated-period.ensures ∙ ap (eqb (stated_of c.args.self.paced.pace)) c.default_period.ensures) ∙ alone _)
