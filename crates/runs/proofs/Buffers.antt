-- A text at the front of a buffer, and another behind it.
use Prim.Native.Nat.{ℕ, ◌+◌, ◌≤◌}
use mathlib.Core.Bool.{Bool, true, false, cond}
use mathlib.Core.List.{List, [], ◌++◌, append_assoc}
use mathlib.Core.Path.{◌≡◌, refl, sym, ◌∙◌}
use native.Mathlib.Nat.{zero-add}
use native.Mathlib.Omega.{arith}
use lib.Dec.{leb}
use lib.ListN.{length, take, drop, length-append, length-drop}
use lib.Seq.{take-append_seam, drop-append-add, drop-drop}
use borrow.Author.Tests.{le-leb, leb-true}
use Rattle.texts.specs.Text.{put_at, used_by}

module _ (text : List ℕ) (at : ℕ) (buffer : List ℕ) (room : at + length text ≤ length buffer) where
  put : put_at text at buffer ≡ take at buffer ++ text ++ drop (at + length text) buffer
  unfolding put_at
  put = rw (le-leb (at + length text) (length buffer) room) refl

  used : used_by text at buffer ≡ at + length text
  unfolding used_by
  used = rw (le-leb (at + length text) (length buffer) room) refl

-- A buffer keeps its length.
pub same_size : (text : List ℕ) (buffer : List ℕ) → length (put_at text 0 buffer) ≡ length buffer
unfolding put_at
same_size text buffer = by_test (leb (0 + length text) (length buffer)) refl
  where
    by_test : (b : Bool) → leb (0 + length text) (length buffer) ≡ b → length (cond b (text ++ drop (0 + length text) buffer) buffer) ≡ length buffer
    by_test true e = let h : 0 + length text ≤ length buffer = leb-true (0 + length text) (length buffer) e in rw (length-append, length-drop) (omega arith)
    by_test false e = refl

-- No text.
pub none_put : (buffer : List ℕ) → put_at [] 0 buffer ≡ buffer
none_put buffer = put [] 0 buffer (omega arith)

pub none_used : (buffer : List ℕ) → used_by [] 0 buffer ≡ 0
none_used buffer = used [] 0 buffer (omega arith)

-- A text at the front, and one behind it.
module _ (t buffer : List ℕ) (room : length t ≤ length buffer) where
  front : put_at t 0 buffer ≡ t ++ drop (length t) buffer
  front = put t 0 buffer (omega arith) ∙ rw zero-add refl

  pub front_used : length t ≡ used_by t 0 buffer
  front_used = sym (used t 0 buffer (omega arith) ∙ zero-add (length t))

module _ (t u buffer : List ℕ) (room : length t + length u ≤ length buffer) where
  pub put_behind : put_at u (length t) (put_at t 0 buffer) ≡ put_at (t ++ u) 0 buffer
  put_behind =
      let all : length (t ++ u) ≤ length buffer = rw length-append room in
      let fits : length t + length u ≤ length (t ++ drop (length t) buffer) = rw (length-append, length-drop) (omega arith) in
      rw (front t buffer (omega arith), front (t ++ u) buffer all)
      (put u (length t) (t ++ drop (length t) buffer) fits ∙ rw (take-append_seam, drop-append-add, drop-drop, length-append, append_assoc) refl)

  pub used_behind : used_by u (length t) (put_at t 0 buffer) ≡ length (t ++ u)
  used_behind = used u (length t) (put_at t 0 buffer) (rw same_size room) ∙ sym (length-append t u)
