-- `tableread::read::Part::deadline_fault` meets its contract: a deadline that stands makes the row whole, and is tested for range and for the default, which goes by the pace; one that does not is not tested.
use mathlib.Core.Path.{◌∙◌, ap}
use lib.Dec.{eqb}
use Rattle.tablefile.specs.Layout.{Deadline}
use Rattle.tablefile.proofs.Laws.{default_by_pace}
use Rattle.tableread.proofs.Values.{deadline_stated}
use Rattle.tableread.proofs.Faults.{judged_told}
use Rattle.tableread.proofs.read.Part.deadline_fault.Goals as goal

pub returns : goal.returns
returns c =
    c.judgement.ensures
    ∙ judged_told Deadline c.args.self.bytes.now _ c.args.self.mapped c.deadline_stands.ensures c.deadline_place-place.ensures.value c.args.self.edition (deadline_stated _ c.args.self.bytes.now c.args.self.mapped c.deadline_stands.ensures c.deadline_place-place.ensures.value c.args.self.read c.u32_at-deadline.ensures) c.deadline_ok.ensures (ap (eqb c.u32_at-deadline.result) (c.default_deadline.ensures ∙ default_by_pace c.args.self.edition c.args.self.paced c.u32_at-deadline.result))
