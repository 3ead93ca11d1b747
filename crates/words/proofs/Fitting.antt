-- A word, or words, within the bytes, and behind their end.
use Prim.Native.Nat.{ℕ, ◌+◌, ◌*◌, ◌≤◌, ◌<◌}
use mathlib.Core.List.{List, [], ◌∷◌}
use mathlib.Core.Path.{◌≡◌, refl, ◌∙◌}
use lib.ListN.{length}
use borrow.Author.Tests.{le-leb, lt-leb}
use Rattle.words.specs.Words.{half_at, word_at, stored, put, put_all}

module _ (s : List ℕ) (k : ℕ) where
  pub none_there : length s < 8 * (k + 1) → 0 ≡ word_at s k
  unfolding word_at
  none_there h = rw (lt-leb (8 * (k + 1)) (length s) h) refl

  pub word_inside : 8 * (k + 1) ≤ length s → word_at s k ≡ half_at s (8 * k) + 4294967296 * half_at s (8 * k + 4)
  unfolding word_at
  word_inside h = rw (le-leb (8 * (k + 1)) (length s) h) refl

  -- words that all fit are stored, and else none is
  module _ (ws : List ℕ) where
    pub all_fit : {t : List ℕ} → 8 * (k + length ws) ≤ length s → t ≡ put_all s k ws → t ≡ stored s k ws
    unfolding put_all
    all_fit h e = e ∙ rw (le-leb (8 * (k + length ws)) (length s) h) refl

    pub fit_all : {t : List ℕ} → 8 * (k + length ws) ≤ length s → t ≡ stored s k ws → t ≡ put_all s k ws
    unfolding put_all
    fit_all h e = rw (le-leb (8 * (k + length ws)) (length s) h) e

    pub none_fits : length s < 8 * (k + length ws) → s ≡ put_all s k ws
    unfolding put_all
    none_fits h = rw (lt-leb (8 * (k + length ws)) (length s) h) refl

  -- and so of one word
  module _ (w : ℕ) where
    one : put_all s k (w ∷ []) ≡ put s k w
    unfolding put_all put
    one = refl

    pub put_fits : {t : List ℕ} → 8 * (k + 1) ≤ length s → t ≡ put s k w → t ≡ stored s k (w ∷ [])
    put_fits h e = all_fit (w ∷ []) h (rw one e)

    pub fits_put : {t : List ℕ} → 8 * (k + 1) ≤ length s → t ≡ stored s k (w ∷ []) → t ≡ put s k w
    fits_put h e = rw (← one) (fit_all (w ∷ []) h e)

    pub no_room : length s < 8 * (k + 1) → s ≡ put s k w
    no_room h = rw (← one) (none_fits (w ∷ []) h)
