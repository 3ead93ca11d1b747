-- The call that words name, and the zeros behind the words that it uses.
use Rattle.std.specs.Prelude.{Some}
use Prim.Native.Nat.{ℕ, zero, suc, ◌+◌}
use mathlib.Core.Bool.{true}
use mathlib.Core.List.{List}
use mathlib.Core.Path.{◌≡◌, refl}
use lib.ListN.{length}
use lib.Dec.{eqb}
use Rattle.std.specs.List.{list_all, range_with_len}
use borrow.Author.Tests.{eq-eqb}
use Rattle.callbytes.specs.declared.Asked.{Asked}
use Rattle.callbytes.specs.declared.Asked.TheVariants.{Offer, OfferBest, Advance, Leave}
use Rattle.words.specs.Words.{word_at}
use Rattle.callbytes.specs.Calls.{call_size, join_by, named, used_by, zeros, zeros_from, read_call}

module _ (s : List ℕ) where
  -- ---- by the first word
  pub offer_named : word_at s 0 ≡ 0 → Some (Offer (word_at s 1) (word_at s 2)) ≡ named s
  unfolding named
  offer_named e = rw e refl

  pub best_named : word_at s 0 ≡ 1 → Some (OfferBest (word_at s 1)) ≡ named s
  unfolding named
  best_named e = rw e refl

  pub advance_named : word_at s 0 ≡ 2 → Some (Advance (word_at s 1)) ≡ named s
  unfolding named
  advance_named e = rw e refl

  pub join_named : word_at s 0 ≡ 3 → join_by s (word_at s 1) ≡ named s
  unfolding named
  join_named e = rw e refl

  pub leave_named : word_at s 0 ≡ 4 → Some (Leave (word_at s 1)) ≡ named s
  unfolding named
  leave_named e = rw e refl

  -- ---- zeros
  pub zeros_all : (k n : ℕ) → list_all (λ i. eqb (word_at s i) 0) (range_with_len k n) ≡ zeros s k n
  unfolding zeros
  zeros_all k zero = refl
  zeros_all k (suc n) = rw (zeros_all (k + 1) n) refl

  -- ---- a call
  module _ (a : Asked) (long : length s ≡ call_size) (e : Some a ≡ named s) where
    pub rest_zero : zeros_from s (used_by a) ≡ true → Some a ≡ read_call s
    unfolding read_call
    rest_zero f = rw (eq-eqb (length s) call_size long, ← e, f) refl
