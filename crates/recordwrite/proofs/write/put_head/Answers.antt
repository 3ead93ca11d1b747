-- `recordwrite::write::put_head` meets its contract: five words, one behind the other, and the count is how many rows there are.
use Rattle.recordwrite.proofs.Storage.{head_put}
use Rattle.recordwrite.proofs.write.put_head.Goals as goal

pub returns : goal.returns
returns c = head_put c.args.out.now c.args.t c.put_word.ensures c.put_word-2.ensures c.put_word-3.ensures c.put_word-4.ensures c.put_word-5.ensures
