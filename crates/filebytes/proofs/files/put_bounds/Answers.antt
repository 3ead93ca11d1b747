-- `filebytes::files::put_bounds` meets its contract: the words are stored from the front.
use native.Mathlib.Omega.{arith}
use mathlib.Core.Path.{◌∙◌}
use denote.Builtin.{u64}
use Rattle.words.proofs.Laws.{bytes_length, stored_front, array_places, all_fit}
use Rattle.filebytes.proofs.files.put_bounds.Goals as goal

pub returns : goal.returns
returns c =
    let long = array_places u64 32 c.args.bounds _ c.well_formed.1.0 in
    all_fit c.args.out.now 0 c.args.bounds (omega arith) c.put_words.ensures ∙ rw (bytes_length c.args.bounds) (stored_front c.args.out.now c.args.bounds (omega arith))
