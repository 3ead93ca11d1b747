-- `rowbytes::write::put_row` meets its contract: four words, and the pace's words behind them.
use Rattle.rowbytes.proofs.Words.{row_put}
use Rattle.rowbytes.proofs.write.put_row.Goals as goal

pub returns : goal.returns
returns c =
    row_put _ _ c.args.row c.class_word-class.ensures c.from-tag.ensures c.from-payload.ensures c.from-deadline.ensures c.put_words.ensures c.put_pace.ensures
