-- `inputs::filled` meets its contract: what a read gave stands behind what had been read.
use Rattle.std.proofs.Common.{◌≡◌, ℕ, ◌+◌, ◌-◌, ◌≤◌, List, ◌++◌, length, take, rules, length-take-le, subst, sym, ap, ◌∙◌}
use Rattle.std.proofs.lemmas.List.{take-append-le}
use Rattle.std.proofs.Math.Seq.{take-append-add}
use Rattle.std.specs.Io.KnownBytes.{Consumes}
use Rattle.std.proofs.KnownBytes.{Consumes-trans}
use borrow.Rule.Slice.PartMut.{put_mid, post_of}
use Rattle.inputs.proofs.filled.Goals as goal

-- what was there, and what stands first behind it
more : (a n : ℕ) (xs ys : List ℕ) → a ≤ length xs → n ≤ length ys → take a xs ++ take n ys ≡ take (a + n) (put_mid a (length xs - a) xs ys)
more a n xs ys within fits =
    let long : length (take a xs) ≡ a = length-take-le a xs within in
    let rest = post_of a (length xs - a) xs in
    sym (ap (λ k. take (k + n) (take a xs ++ (ys ++ rest))) (sym long) ∙ take-append-add (take a xs) (ys ++ rest) n ∙ ap (λ l. take a xs ++ l) (take-append-le n ys rest fits))

pub loop-count-preserved : goal.loop-count-preserved
loop-count-preserved g c =
    let within = c.loop-count.invariant.0 in
    (search rules, subst (Consumes _ _) (more _ _ _ _ within c.in-Ok.ensures.bound.0) (Consumes-trans _ _ _ _ _ c.loop-count.invariant.1 c.in-Ok.ensures.bytes.0))
