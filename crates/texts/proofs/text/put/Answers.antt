-- `texts::text::put` meets its contract: where there is room the text is written over its place, and else nothing is put.
use Prim.Native.Nat.{◌+◌, ◌-◌}
use mathlib.Core.Path.{◌≡◌, ◌∙◌}
use lib.ListN.{length}
use native.Mathlib.Omega.{arith}
use Rattle.texts.proofs.Texts.{no_room, all_put}
use Rattle.texts.proofs.text.put.Goals as goal

pub returns-then-out-end : goal.returns-then-out-end
returns-then-out-end c =
    let p = no_room c.args.at c.args.text.now c.args.out.now (omega arith) in
    record { value = p.0; out_after = p.1 }

pub returns : goal.returns
returns c =
    let end : c.saturating_add-end.result ≡ c.args.at + length c.args.text.now = omega arith in
    let p = all_put c.args.at c.args.text.now c.args.out.now (c.saturating_add-end.result - c.args.at) (omega arith) (omega arith) c.copy_from_slice.ensures.after in
    record { value = end ∙ p.0; out_after = p.1 }
