-- `recordparts::parts::put_last` meets its contract: a mark of 1 and the instant behind it, or a mark of 0 alone.
use Rattle.recordparts.proofs.Storage.{instant_put}
use Rattle.recordparts.proofs.parts.put_last.Goals as goal

pub returns-in-Some : goal.returns-in-Some
returns-in-Some c = instant_put _ _ c.in-Some.is c.put_word-in-Some.ensures c.put_word-in-Some-2.ensures
