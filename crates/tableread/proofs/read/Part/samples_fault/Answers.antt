-- `tableread::read::Part::samples_fault` meets its contract: the tests are those of the samples field's checks, at its place.
use mathlib.Core.Path.{◌∙◌, ap, refl}
use Rattle.table.specs.Ranges.{samples_ok}
use Rattle.tablefile.specs.Layout.{Samples}
use Rattle.tablefile.proofs.Laws.{bit_shared}
use Rattle.tableread.proofs.Faults.{alone, stop, pass, present_told, judged_told}
use Rattle.tableread.proofs.Values.{row_built}
use Rattle.tableread.proofs.read.Part.samples_fault.Goals as goal

pub returns-in_err-presence : goal.returns-in_err-presence
returns-in_err-presence c =
    stop c.from_residual.result _ c.from_residual.ensures.1 c.in_err-presence.was (c.presence.ensures ∙ present_told Samples c.args.self.bytes.now _ c.args.self.mapped (c.rate_stands-stands.ensures ∙ bit_shared _) c.samples_place-place.ensures.value)

pub returns : goal.returns
returns c =
    pass _ c.in_ok-presence.was (c.presence.ensures ∙ present_told Samples c.args.self.bytes.now _ c.args.self.mapped (c.rate_stands-stands.ensures ∙ bit_shared _) c.samples_place-place.ensures.value)
    (c.judgement.ensures ∙ judged_told Samples c.args.self.bytes.now _ c.args.self.mapped (c.rate_stands-stands.ensures ∙ bit_shared _) c.samples_place-place.ensures.value c.args.self.edition (λ _. row_built _ c.args.self.bytes.now c.args.self.read) (c.samples_ok.ensures ∙ ap samples_ok c.samples.ensures) refl ∙ alone _)
