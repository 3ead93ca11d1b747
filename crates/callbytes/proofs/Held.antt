-- The words of a call that stand in bytes, and zeros behind them: they name the call, and are those of the call that they name.
use Rattle.std.specs.Prelude.{Some, None}
use Prim.Native.Nat.{ℕ, zero, suc, ◌+◌, ◌-◌, ◌≤◌}
use mathlib.Core.Bool.{Bool, true, false, cond}
use mathlib.Core.List.{List, [], ◌∷◌, ◌++◌}
use mathlib.Core.Path.{◌≡◌, refl, ◌∙◌}
use native.Mathlib.Nat.{add-zero, zero-add}
use native.Mathlib.Omega.{arith}
use lib.Dec.{eqb}
use lib.ListN.{length, replicate, length-append, length-replicate}
use borrow.Author.Tests.{ne_eqb, eqb-true}
use Rattle.table.proofs.Laws.{and-true}
use Rattle.machine.specs.Calls.{Call, offer, offer_best, advance, join, leave}
use Rattle.words.specs.Words.{Every, Bytes, Word, word_at}
use Rattle.words.proofs.Laws.{Held, word_small}
use Rattle.rowbytes.specs.Row.{row_at, row_fits}
use Rattle.rowbytes.proofs.Laws.{row_wide, row_words_lem, row_back, row_fits_lem, row_same, row_small}
use Rattle.callbytes.specs.declared.Asked.{Asked}
use Rattle.callbytes.specs.declared.Asked.TheVariants.{Offer, OfferBest, Advance, Join, Leave}
use Rattle.callbytes.specs.Calls.{call_width, row_start, used_words, call_words, CallFits, call_by, named, call_of, call_or_none, used_by, zeros, zeros_from}
use Rattle.callbytes.proofs.Named.{offer_named, best_named, advance_named, join_named, leave_named}

-- ---- a call has 9 words, and they are words if it fits
used_most : (c : Call) → length (used_words c) ≤ call_width
used_most (offer row payload) = omega arith
used_most (offer_best payload) = omega arith
used_most (advance n) = omega arith
used_most (join number r) = omega (arith, row_wide r)
used_most (leave number) = omega arith

pub call_width_lem : (c : Call) → length (call_words c) ≡ call_width
unfolding call_words
call_width_lem c =
    let ws = used_words c in
    length-append ws (replicate (call_width - length ws) 0) ∙ omega (arith, length-replicate {A = ℕ} (call_width - length ws) 0, used_most c)

used_words_lem : (c : Call) → CallFits c → Every Word (used_words c)
used_words_lem (offer row payload) f = (omega arith, (f.0, (f.1, tt)))
used_words_lem (offer_best payload) f = (omega arith, (f, tt))
used_words_lem (advance n) f = (omega arith, (f, tt))
used_words_lem (join number r) f = (omega arith, (f.0, row_words_lem [] r f.1))
used_words_lem (leave number) f = (omega arith, (f, tt))

padded : (ws : List ℕ) (n : ℕ) → Every Word ws → Every Word (ws ++ replicate n 0)
padded [] zero f = tt
padded [] (suc n) f = (omega arith, padded [] n tt)
padded (w ∷ ws) n f = (f.0, padded ws n f.1)

pub call_words_lem : (c : Call) → CallFits c → Every Word (call_words c)
unfolding call_words
call_words_lem c f = padded (used_words c) (call_width - length (used_words c)) (used_words_lem c f)

-- what is read as a call
abbrev pub asked_of : Call → Asked
asked_of (offer row payload) = Offer row payload
asked_of (offer_best payload) = OfferBest payload
asked_of (advance n) = Advance n
asked_of (join number r) = Join number r
asked_of (leave number) = Leave number

pub asked_call : (c : Call) → call_of (asked_of c) ≡ c
asked_call (offer row payload) = refl
asked_call (offer_best payload) = refl
asked_call (advance n) = refl
asked_call (join number r) = refl
asked_call (leave number) = refl

module _ (s : List ℕ) where
  -- ---- words, and more behind them
  held_append : (k : ℕ) (a b : List ℕ) → Held s k a → Held s (k + length a) b → Held s k (a ++ b)
  held_append k [] b h g = rw (add-zero k) at g
  held_append k (w ∷ a) b h g = let e : k + suc (length a) ≡ k + 1 + length a = omega arith in (h.0, held_append (k + 1) a b h.1 (rw e at g))

  held_parts : (k : ℕ) (a b : List ℕ) → Held s k (a ++ b) → Held s k a × Held s (k + length a) b
  held_parts k [] b h = (tt, rw (add-zero k) h)
  held_parts k (w ∷ a) b h =
      let e : k + suc (length a) ≡ k + 1 + length a = omega arith in
      let p = held_parts (k + 1) a b h.1 in
      ((h.0, p.0), rw e p.1)

  held_zeros : (k n : ℕ) → Held s k (replicate n 0) → zeros s k n ≡ true
  unfolding zeros
  held_zeros k zero h = refl
  held_zeros k (suc n) h = rw h.0 (held_zeros (k + 1) n h.1)

  zeros_held : (k n : ℕ) → zeros s k n ≡ true → Held s k (replicate n 0)
  unfolding zeros
  zeros_held k zero e = tt
  zeros_held k (suc n) e = let p = and-true (eqb (word_at s k) 0) (zeros s (k + 1) n) e in (eqb-true (word_at s k) 0 p.0, zeros_held (k + 1) n p.1)

  -- ---- a call's words name it
  used_back : (c : Call) → CallFits c → Held s 0 (used_words c) → Some (asked_of c) ≡ named s
  used_back (offer row payload) f h = rw (← h.1.0, ← h.1.1.0) (offer_named s h.0)
  used_back (offer_best payload) f h = rw (← h.1.0) (best_named s h.0)
  used_back (advance n) f h = rw (← h.1.0) (advance_named s h.0)
  used_back (join number r) f h = rw (h.1.0, row_fits_lem s r row_start f.1 h.1.1, row_back s r row_start f.1 h.1.1) at (join_named s h.0)
  used_back (leave number) f h = rw (← h.1.0) (leave_named s h.0)

  pub call_back : (c : Call) → CallFits c → Held s 0 (call_words c) → (Some (asked_of c) ≡ named s) × (zeros_from s (used_by (asked_of c)) ≡ true)
  unfolding call_words
  call_back c f h =
      let ws = used_words c in
      let p = held_parts 0 ws (replicate (call_width - length ws) 0) h in
      (used_back c f p.0, rw (asked_call c) (held_zeros (length ws) (call_width - length ws) (rw (zero-add (length ws)) at p.1)))

  -- ---- the words that name a call are its words
  join_same : (number : ℕ) → word_at s 0 ≡ 3 → word_at s 1 ≡ number → (b : Bool) → row_fits s row_start ≡ b → (a : Asked) → cond b (Some (Join number (row_at s row_start))) None ≡ Some a → Held s 0 (used_words (call_of a))
  join_same number k e true q a r = let same : Join number (row_at s row_start) ≡ a = cc in rw (← same) (k, (e, row_same s row_start q))
  join_same number k e false q a r = cc

  -- no kind above 4
  none_above : (n : ℕ) → call_by (suc (suc (suc (suc (suc n))))) s ≡ None
  none_above n =
      let kind = suc (suc (suc (suc (suc n)))) in
      rw (ne_eqb kind 0 (λ e. omega arith), ne_eqb kind 1 (λ e. omega arith), ne_eqb kind 2 (λ e. omega arith), ne_eqb kind 3 (λ e. omega arith), ne_eqb kind 4 (λ e. omega arith)) refl

  kind_same : (kind : ℕ) → word_at s 0 ≡ kind → (a : Asked) → call_by kind s ≡ Some a → Held s 0 (used_words (call_of a))
  kind_same zero k a e = let same : Offer (word_at s 1) (word_at s 2) ≡ a = cc in rw (← same) (k, (refl, (refl, tt)))
  kind_same (suc zero) k a e = let same : OfferBest (word_at s 1) ≡ a = cc in rw (← same) (k, (refl, tt))
  kind_same (suc (suc zero)) k a e = let same : Advance (word_at s 1) ≡ a = cc in rw (← same) (k, (refl, tt))
  kind_same (suc (suc (suc zero))) k a e = join_same (word_at s 1) k refl (row_fits s row_start) refl a e
  kind_same (suc (suc (suc (suc zero)))) k a e = let same : Leave (word_at s 1) ≡ a = cc in rw (← same) (k, (refl, tt))
  kind_same (suc (suc (suc (suc (suc n))))) k a e = let z = rw (none_above n) at e in cc

  pub call_same : (a : Asked) → named s ≡ Some a → zeros_from s (used_by a) ≡ true → Held s 0 (call_words (call_of a))
  unfolding named call_words
  call_same a e z =
      let ws = used_words (call_of a) in
      held_append 0 ws (replicate (call_width - length ws) 0) (kind_same (word_at s 0) refl a e) (rw (zero-add (length ws)) (zeros_held (length ws) (call_width - length ws) z))

  -- ---- and it fits
  module _ (b : Bytes s) where
    join_small : (number : ℕ) → Word number → (b : Bool) → CallFits (call_or_none (cond b (Some (Join number (row_at s row_start))) None))
    join_small number h true = (h, row_small s row_start)
    join_small number h false = omega arith

    kind_small : (kind : ℕ) → CallFits (call_or_none (call_by kind s))
    kind_small zero = (word_small s b 1, word_small s b 2)
    kind_small (suc zero) = word_small s b 1
    kind_small (suc (suc zero)) = word_small s b 1
    kind_small (suc (suc (suc zero))) = join_small (word_at s 1) (word_small s b 1) (row_fits s row_start)
    kind_small (suc (suc (suc (suc zero)))) = word_small s b 1
    kind_small (suc (suc (suc (suc (suc n))))) = rw (none_above n) (omega arith)

    pub call_small : (a : Asked) → named s ≡ Some a → CallFits (call_of a)
    unfolding named
    call_small a e = rw e at (kind_small (word_at s 0))
