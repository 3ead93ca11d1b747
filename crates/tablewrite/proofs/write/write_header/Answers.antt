-- `tablewrite::write::write_header` meets its contract: the stores are the header's parts, one behind the other.
use mathlib.Core.Path.{refl, ◌∙◌, ap}
use mathlib.Core.List.{◌++◌, ◌∷◌, []}
use lib.ListN.{length}
use lib.Seq.{sets}
use Rattle.tablefile.specs.Writing.{header_bytes}
use Rattle.tablefile.specs.Layout.{letters, bytes_of}
use Rattle.tablewrite.proofs.Stores.{sets_next}
use Rattle.tablewrite.proofs.Fields.{two_bytes, four_bytes}
use Rattle.tablewrite.proofs.write.write_header.Goals as goal

pub returns : goal.returns
unfolding header_bytes bytes_of
returns c =
    let out = c.args.out.now in
    let own = letters c.args.edition in
    let a = bytes_of 4 c.args.h.idlea in
    let b = bytes_of 4 c.args.h.idleb in
    let best = bytes_of 2 c.args.h.payload in
    let one = c.put.ensures ∙ ap (sets out 0) c.letters.ensures in
    let two = c.put-2.ensures ∙ ap (sets _ 4) (c.to_be_bytes.ensures ∙ four_bytes _) ∙ sets_next own a out one refl in
    let three = c.put-3.ensures ∙ ap (sets _ 8) (c.to_be_bytes-2.ensures ∙ four_bytes _) ∙ sets_next (own ++ a) b out two refl in
    let four = c.put-4.ensures ∙ ap (sets _ 12) (c.to_be_bytes-3.ensures ∙ two_bytes _) ∙ sets_next (own ++ a ++ b) best out three refl in
    c.put-5.ensures ∙ sets_next (own ++ a ++ b ++ best) (length c.args.rows.now ∷ []) out four refl
