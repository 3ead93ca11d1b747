-- `words::words::word` meets its contract: where the last byte is there, the whole piece of eight bytes of that number is.
use native.Mathlib.Omega.{arith}
use Rattle.words.proofs.Fitting.{none_there}
use Rattle.words.proofs.Bytes.{read_whole}
use Rattle.words.proofs.words.word.Goals as goal

pub returns-in-Some : goal.returns-in-Some
returns-in-Some c =
    let found = c.in-Some.ensures.lookup in
    read_whole c.args.s.now c.args.k c.from_le_bytes.result c.as_chunks.ensures.front_len c.as_chunks.ensures.front found.3.0 found.1 c.from_le_bytes.ensures

pub returns-in-None : goal.returns-in-None
returns-in-None c = none_there c.args.s.now c.args.k (omega (arith, c.in-None.ensures.lookup.3, c.as_chunks.ensures.front_len))
