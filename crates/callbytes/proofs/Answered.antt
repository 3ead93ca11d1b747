-- Answers written.
use Rattle.std.specs.Prelude.{Some, None}
use Prim.Native.Nat.{ℕ, ◌≤◌, ◌<◌}
use mathlib.Core.List.{List, [], ◌∷◌, ◌++◌}
use mathlib.Core.Path.{◌≡◌, refl, ◌∙◌}
use native.Mathlib.Omega.{arith}
use lib.ListN.{length, drop}
use borrow.Author.Tests.{le-leb, lt-leb}
use Rattle.machine.specs.Calls.{Answer, taken, passed, denied}
use Rattle.words.specs.Words.{flat, word_bytes, stored}
use Rattle.callbytes.specs.Calls.{answer_size, answer_bytes, fronted}
use Rattle.words.proofs.Laws.{stored_front}

-- ---- an answer
pub answer_length : (a : Answer) → length (answer_bytes a) ≡ answer_size
unfolding answer_bytes flat word_bytes
answer_length taken = refl
answer_length (passed n (Some f)) = refl
answer_length (passed n None) = refl
answer_length (denied n p) = refl

-- ---- bytes at the front of a buffer
too_short : (bytes s : List ℕ) → length s < length bytes → s ≡ fronted bytes s
unfolding fronted
too_short bytes s h = rw (lt-leb (length bytes) (length s) h) refl

in_front : (bytes s : List ℕ) {t : List ℕ} → length bytes ≤ length s → t ≡ bytes ++ drop (length bytes) s → t ≡ fronted bytes s
unfolding fronted
in_front bytes s h e = rw (le-leb (length bytes) (length s) h) e

-- an answer that finds room
pub answer_fits : (a : Answer) (s : List ℕ) → answer_size ≤ length s → fronted (answer_bytes a) s ≡ answer_bytes a ++ drop answer_size s
unfolding fronted
answer_fits a s h = rw (le-leb (length (answer_bytes a)) (length s) (omega (arith, answer_length a)), answer_length a) refl

words_length : (n a b c d : ℕ) → length (flat word_bytes (n ∷ a ∷ b ∷ c ∷ d ∷ [])) ≡ answer_size
unfolding flat word_bytes
words_length n a b c d = refl

module _ (s : List ℕ) (n a b c d : ℕ) where
  pub answer_short : length s < answer_size → s ≡ fronted (flat word_bytes (n ∷ a ∷ b ∷ c ∷ d ∷ [])) s
  answer_short h = too_short _ s (rw (words_length n a b c d) h)

  pub answer_put : {t : List ℕ} → answer_size ≤ length s → t ≡ stored s 0 (n ∷ a ∷ b ∷ c ∷ d ∷ []) → t ≡ fronted (flat word_bytes (n ∷ a ∷ b ∷ c ∷ d ∷ [])) s
  answer_put h e =
      let all = e ∙ stored_front s (n ∷ a ∷ b ∷ c ∷ d ∷ []) h in
      in_front _ s (rw (words_length n a b c d) h) (rw (words_length n a b c d) all)
