-- `tableread::read::Part::payload_fault` meets its contract: the tests are those of the payload's checks, at its place.
use mathlib.Core.Path.{◌∙◌, ap, refl}
use lib.Dec.{eqb}
use Rattle.tablefile.specs.Layout.{Payload, default_payload}
use Rattle.tableread.proofs.Faults.{alone, stop, pass, present_told, judged_told}
use Rattle.tableread.proofs.Values.{row_built}
use Rattle.tableread.proofs.read.Part.payload_fault.Goals as goal

pub returns-in_err-presence : goal.returns-in_err-presence
returns-in_err-presence c =
    stop c.from_residual.result _ c.from_residual.ensures.1 c.in_err-presence.was (c.presence.ensures ∙ present_told Payload c.args.self.bytes.now _ c.args.self.mapped c.payload_stands-stands.ensures refl)

pub returns : goal.returns
unfolding default_payload
returns c =
    pass _ c.in_ok-presence.was (c.presence.ensures ∙ present_told Payload c.args.self.bytes.now _ c.args.self.mapped c.payload_stands-stands.ensures refl)
    (c.judgement.ensures ∙ judged_told Payload c.args.self.bytes.now _ c.args.self.mapped c.payload_stands-stands.ensures refl c.args.self.edition (λ _. row_built _ c.args.self.bytes.now c.args.self.read) refl (ap (eqb c.args.self.paced.payload) c.default_payload.ensures) ∙ alone _)
