-- `tableread::read::Part::row` meets its contract: the deadline is what the bytes at its place say where its bit stands, and else its default, the row's period, which fits.
use mathlib.Core.Path.{◌∙◌}
use Rattle.std.proofs.Common.{rules}
use Rattle.tablefile.specs.Layout.{Deadline, default_deadline}
use Rattle.tableread.proofs.Values.{stated, unstated, deadline_put, row_built, short_period}
use Rattle.tableread.proofs.read.Part.row.Goals.{then-deadline_stands, else-deadline_stands}
use Rattle.tableread.proofs.read.Part.row.Goals as goal

pub overflow_cast-deadline : goal.overflow_cast-deadline
unfolding default_deadline
overflow_cast-deadline c = let h = short_period _ c.args.self.bytes.now _ c.requires c.args.self.read in search (rules, h)

pub returns : goal.returns
returns c =
    deadline_put c.args.self.edition c.args.self.bytes.now c.args.self.paced
    (elim c.if-deadline_stands.branch [ then-deadline_stands w ↦ w.deadline-is ∙ stated Deadline c.args.self.bytes.now c.args.self.mapped c.deadline_stands.ensures (default_deadline c.args.self.edition c.args.self.paced) w.if-deadline_stands.true w.deadline_place.ensures.value w.u32_at-deadline.ensures | else-deadline_stands w ↦ w.deadline-is ∙ unstated Deadline c.args.self.bytes.now c.args.self.mapped c.deadline_stands.ensures (default_deadline c.args.self.edition c.args.self.paced) w.if-deadline_stands.false w.default_deadline.ensures ])
    ∙ row_built _ c.args.self.bytes.now c.args.self.read
