-- `recordwrite::write::put_mark` meets its contract: the words of an empty number are none.
use mathlib.Core.Path.{sym, ◌∙◌}
use Rattle.machine.specs.State.{instant_of}
use Rattle.recordwrite.proofs.Storage.{mark_put, no_mark_lem}
use Rattle.recordwrite.proofs.write.put_mark.Goals as goal

pub returns-then-is_there : goal.returns-then-is_there
returns-then-is_there c = mark_put _ _ _ (instant_of c.args.last) (sym c.is_there.ensures ∙ c.if-is_there.true) c.put_last.ensures

pub returns-else-is_there : goal.returns-else-is_there
returns-else-is_there c = no_mark_lem _ _ _ (instant_of c.args.last) (sym c.is_there.ensures ∙ c.if-is_there.false)
