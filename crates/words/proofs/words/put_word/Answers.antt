-- `words::words::put_word` meets its contract: where the last byte is there the word's eight bytes are written over its place, and else nothing is put.
use native.Mathlib.Omega.{arith}
use Prim.Native.Nat.{◌+◌, ◌-◌, ◌*◌}
use Rattle.words.proofs.Fitting.{no_room, fits_put}
use Rattle.words.proofs.Bytes.{write_whole}
use mathlib.Core.Path.{◌∙◌}
use Rattle.words.proofs.words.put_word.Goals as goal

pub returns-then-k-out : goal.returns-then-k-out
returns-then-k-out c =
    let k = c.args.k in
    fits_put c.args.out.now k c.args.w (omega arith) (write_whole c.args.out.now k (8 * k + 8 - 8 * k) c.args.w (omega arith) (omega arith) (c.copy_from_slice.ensures.after ∙ c.to_le_bytes.ensures))

pub returns-else-k-out : goal.returns-else-k-out
returns-else-k-out c = no_room c.args.out.now c.args.k c.args.w (omega arith)
