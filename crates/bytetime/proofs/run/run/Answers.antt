-- `bytetime::run::run` meets its contract: numbers that pass the test are near.
use Prim.Native.Nat.{suc, ◌≤◌}
use mathlib.Core.Bool.{true, ◌&&◌}
use mathlib.Core.Path.{◌≡◌, sym, ◌∙◌}
use native.Mathlib.Omega.{arith}
use lib.IntN.{ℤ, pos, negsuc}
use lib.Dec.{leb}
use lib.Signed.{mag}
use borrow.Author.Tests.{leb-true}
use Rattle.table.specs.Limits.{D}
use Rattle.table.proofs.Laws.{and-true}
use Rattle.machine.specs.Record.{between}
use Rattle.bytetime.specs.declared.Hot.{Hot}
use Rattle.bytetime.specs.declared.Fixed.{Fixed}
use Rattle.bytetime.specs.Bytes.{reach, Near, near_hot}
use Rattle.bytetime.proofs.run.run.Goals as goal

in_reach : (z : ℤ) → between reach reach z ≡ true → mag z ≤ reach
in_reach (pos n) e = leb-true n reach e
in_reach (negsuc n) e = omega (arith, leb-true (suc n) reach e)

is-near : (h : Hot) (x : Fixed) → near_hot h x ≡ true → Near reach h x
is-near h x e =
    let p = and-true (leb x.idlea D && leb x.idleb D) (between reach reach h.credita && between reach reach h.creditb) e in
    let q = and-true (leb x.idlea D) (leb x.idleb D) p.0 in
    let r = and-true (between reach reach h.credita) (between reach reach h.creditb) p.1 in
    record { idlea = leb-true _ _ q.0; idleb = leb-true _ _ q.1; credita = in_reach h.credita r.0; creditb = in_reach h.creditb r.1 }

pub steps-requires : goal.steps-requires
steps-requires c =
    record { near = is-near c.args.h c.args.x (sym c.near.ensures ∙ c.if-near.true); n_le_most_steps = c.if-n-le-MOST_STEPS.true }
