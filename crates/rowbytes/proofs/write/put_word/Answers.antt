-- `rowbytes::write::put_word` meets its contract: a word that has room is stored.
use Rattle.words.proofs.Laws.{put_fits}
use Rattle.rowbytes.proofs.write.put_word.Goals as goal

pub returns : goal.returns
returns c =
    put_fits c.args.out.now c.args.k c.args.w c.requires c.put_word.ensures
