-- `notes::noting::note` meets its contract: it writes one place, by what stood there.
use Prim.Native.Nat.{ℕ, ◌+◌, ◌<◌, max}
use mathlib.Core.List.{List}
use mathlib.Core.Path.{◌≡◌, sym, ◌∙◌, ap}
use native.Mathlib.Omega.{arith}
use lib.ListN.{length, set}
use Rattle.std.proofs.lemmas.List.{map-set}
use Rattle.table.specs.Limits.{most_rows}
use Rattle.notes.specs.declared.Noted.{Noted}
use Rattle.notes.specs.Notes.{newests, counts}
use Rattle.notes.proofs.Notes.{newest_at, count_at}
use Rattle.notes.proofs.noting.note.Goals as goal

inside : (xs : List Noted) (k : ℕ) → length xs ≡ 32 → k < most_rows → k < length xs
inside xs k e h = rw e h

pub overflow_add-noted : goal.overflow_add-noted
overflow_add-noted c =
    record { fits = omega (arith, c.requires.k_bound, count_at c.args.noted.now c.args.k (inside _ _ c.told-noted c.requires.k_lt_most_rows)) }

pub returns : goal.returns
returns c =
    let xs = c.args.noted.now in
    let k = c.args.k in
    let h : k < length xs = inside xs k c.told-noted c.requires.k_lt_most_rows in
    record {
      turn = rw (newest_at xs k h, count_at xs k h) c.in_turn.ensures;
      newest = map-set (λ (n : Noted). n.newest) xs k _ ∙ ap (λ (x : ℕ). set (newests xs) k x) (c.max.ensures ∙ ap (λ (x : ℕ). max x c.args.taken) (sym (newest_at xs k h)));
      counts = map-set (λ (n : Noted). n.count) xs k _ ∙ ap (λ (x : ℕ). set (counts xs) k (x + 1)) (sym (count_at xs k h));
    }
