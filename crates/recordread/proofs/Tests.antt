-- Tests of n things by `all` over a range.
use Prim.Native.Nat.{ℕ, zero, suc, ◌+◌, ◌*◌}
use mathlib.Core.Bool.{Bool, ◌&&◌}
use mathlib.Core.Path.{◌≡◌, refl, ◌∙◌, ap}
use native.Mathlib.Omega.{arith}
use denote.Param.Members.{Mut}
use Rattle.std.specs.Fn.{Called}
use Rattle.std.specs.List.{list_all, range_with_len}
use Rattle.std.specs.Iterator.{ChecksAll}
use Rattle.std.specs.declared.ops.Range.{Range}
use Rattle.std.proofs.iter.Yields.{nat_range_steps}
use Rattle.std.proofs.lemmas.Iterator.{YieldsList-from_range}
use Rattle.std.proofs.lemmas.Iterator.Search.{all_from_yields_List}
use Rattle.recordbytes.specs.Record.{each}

each_of_range : (ok : ℕ → Bool) (size k a n : ℕ) → list_all (λ i. ok (k + size * i)) (range_with_len a n) ≡ each ok size (k + size * a) n
unfolding each
each_of_range ok size k a zero = refl
each_of_range ok size k a (suc n) =
    let z : k + size * (a + 1) ≡ k + size * a + size = omega arith in
    ap (λ b. ok (k + size * a) && b) (each_of_range ok size k (a + 1) n ∙ ap (λ j. each ok size j n) z)

-- `r` is the answer of `all`, and `f` its closure
pub all_fit : (ok : ℕ → Bool) (size k n : ℕ) {F : Type 0} {g : Mut F (ℕ × Unit {0}) Bool} {f : F} {r : Bool} {u : Range ℕ} → ChecksAll nat_range_steps g (record { start = 0; end = n }) f r u → ((x : ℕ) (b : Bool) (q : F) → Called g f (x, tt) b q → (q ≡ f) × (b ≡ ok (k + size * x))) → r ≡ each ok size k n
all_fit ok size k n {f = f} {r = r} {u = u} ran closure =
    let z : k + size * 0 ≡ k = omega arith in
    all_from_yields_List (λ i. ok (k + size * i)) u f r ran (YieldsList-from_range 0 n n refl (omega arith)) closure ∙ each_of_range ok size k 0 n ∙ ap (λ j. each ok size j n) z
