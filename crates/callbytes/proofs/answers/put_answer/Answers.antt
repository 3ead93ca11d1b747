-- `callbytes::answers::put_answer` meets its contract: five words, stored from the front of a buffer that has room for all of them.
use Rattle.words.proofs.Laws.{all_fit}
use Rattle.callbytes.proofs.Answered.{answer_short, answer_put}
use Rattle.callbytes.proofs.answers.put_answer.Goals as goal

pub returns-then-out-ge-ANSWER_SIZE : goal.returns-then-out-ge-ANSWER_SIZE
returns-then-out-ge-ANSWER_SIZE c = answer_put _ _ _ _ _ _ c.if-out-ge-ANSWER_SIZE.true (all_fit _ _ _ c.if-out-ge-ANSWER_SIZE.true c.put_words.ensures)

pub returns-else-out-ge-ANSWER_SIZE : goal.returns-else-out-ge-ANSWER_SIZE
returns-else-out-ge-ANSWER_SIZE c = answer_short _ _ _ _ _ _ c.if-out-ge-ANSWER_SIZE.false
