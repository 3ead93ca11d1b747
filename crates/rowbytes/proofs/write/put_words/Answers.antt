-- `rowbytes::write::put_words` meets its contract: words that have room are stored.
use Rattle.words.proofs.Laws.{all_fit}
use Rattle.rowbytes.proofs.write.put_words.Goals as goal

pub returns : goal.returns
returns c =
    all_fit c.args.out.now c.args.k c.args.words.now c.requires c.put_words.ensures
