-- `saved::saved::clear` meets its contract.
use Prim.Native.Nat.{ℕ}
use mathlib.Core.List.{List, ◌++◌}
use mathlib.Core.Path.{◌≡◌, refl, ◌∙◌}
use native.Mathlib.Omega.{arith}
use lib.ListN.{replicate, drop, length-take}
use Rattle.recordbytes.specs.Layout.{record_size}
use Rattle.saved.specs.Saved.{cleared}
use Rattle.saved.proofs.saved.clear.Goals as goal

zeros : (s t : List ℕ) (n : ℕ) → t ≡ replicate n 0 → n ≡ record_size → t ++ drop record_size s ≡ cleared s
unfolding cleared
zeros s t n e f = rw (e, f) refl

pub returns : goal.returns
returns c = zeros c.args.out.now c.fill.new.self _ (c.fill.ensures.after (λ y e. e)) (length-take record_size c.args.out.now ∙ omega arith)
