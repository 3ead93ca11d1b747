-- The frames behind a queue's head move up by a place, one after the other.
use Prim.Native.Nat.{ℕ, zero, suc, ◌+◌, ◌-◌, ◌*◌, ◌≤◌, ◌<◌}
use mathlib.Core.List.{List, [], ◌∷◌}
use mathlib.Core.Path.{◌≡◌, refl, sym, ◌∙◌, ap}
use native.Mathlib.Omega.{arith}
use lib.ListN.{length, get_or, take, length-take}
use lib.Seq.{take_all}
use borrow.Author.Tests.{le-leb, lt-leb}
use Rattle.machine.specs.declared.Frame.{Frame}
use Rattle.machine.specs.State.{no_frame}
use Rattle.machine.specs.Time.{behind_head}
use Rattle.words.specs.Words.{Bytes, word_at, stored, spread, gathered}
use Rattle.words.proofs.Laws.{gathered_length, spread_next, Rest, rest_whole, rest_stored, rest_spread}
use Rattle.recordbytes.specs.Layout.{frame_width}
use Rattle.recordbytes.specs.Record.{frame_words, frame_at, queue_over}
use Rattle.recordbytes.proofs.Laws.{gathered_at, frames_same}
use Rattle.recordchange.specs.Changed.{left_over}

behind_head_lem : (f : ℕ → Frame) (size k n : ℕ) → behind_head (gathered f size k n) ≡ gathered f size (k + size) (n - 1)
unfolding gathered
behind_head_lem f size k zero = refl
behind_head_lem f size k (suc n) = let z : suc n - 1 ≡ n = omega arith in rw z refl

-- a queue with more frames than places stays as it is
pub too_many : (s : List ℕ) (k places : ℕ) → places < word_at s k → s ≡ left_over k places s
too_many s k places h = rw (lt-leb (word_at s k) places h) refl

-- `o` are the bytes with the new count, `m`
abbrev pub moved : List ℕ → ℕ → ℕ → List Frame
moved o k m = gathered (frame_at o) frame_width (k + 1 + frame_width) m

pub moves_up : (o : List ℕ) (k m i : ℕ) {u v : List ℕ} {f : Frame} → u ≡ spread frame_words frame_width (k + 1) (take i (moved o k m)) o → Bytes o → i < m → f ≡ frame_at u (k + 1 + frame_width * (i + 1)) → v ≡ stored u (k + 1 + frame_width * i) (frame_words f) → v ≡ spread frame_words frame_width (k + 1) (take (i + 1) (moved o k m)) o
moves_up o k m i {u} {v} {f} e b h g w =
    let j = k + 1 + frame_width * (i + 1) in
    let q = moved o k m in
    let r : Rest j o (spread frame_words frame_width (k + 1) (take i q) o) = rest_spread frame_words frame_width (λ x. omega arith) (rest_whole o b) (k + 1) (take i q) j (omega arith) (omega (arith, length-take i q)) in
    let z : k + 1 + frame_width + frame_width * i ≡ j = omega arith in
    let same : frame_at u j ≡ frame_at o j = rw (e, r.same j (omega arith), r.same (j + 1) (omega arith), r.same (j + 2) (omega arith)) refl in
    let is : f ≡ get_or q i no_frame = g ∙ same ∙ sym (gathered_at (frame_at o) frame_width (k + 1 + frame_width) m i no_frame h ∙ ap (frame_at o) z) in
    spread_next frame_words frame_width (k + 1) q o i no_frame (rw (gathered_length (frame_at o) frame_width (k + 1 + frame_width) m) h) e (rw is at w)

pub all_moved : (s : List ℕ) → Bytes s → (k places : ℕ) {m : ℕ} {o u : List ℕ} (i : ℕ) → m ≡ word_at s k - 1 → word_at s k ≤ places → o ≡ stored s k (m ∷ []) → i ≡ m → u ≡ spread frame_words frame_width (k + 1) (take i (moved o k m)) o → u ≡ left_over k places s
unfolding queue_over
all_moved s b k places {m} {o} i em few eo ei e =
    let r : Rest (k + 1) s (stored s k (m ∷ [])) = rest_stored (rest_whole s b) k (m ∷ []) (k + 1) (omega arith) (omega arith) in
    let q = gathered (frame_at s) frame_width (k + 1 + frame_width) m in
    let n : length q ≡ m = gathered_length (frame_at s) frame_width (k + 1 + frame_width) m in
    let frames : gathered (frame_at o) frame_width (k + 1 + frame_width) m ≡ q = rw eo (frames_same r (k + 1 + frame_width) m (omega arith)) in
    let left : behind_head (gathered (frame_at s) frame_width (k + 1) (word_at s k)) ≡ q = behind_head_lem (frame_at s) frame_width (k + 1) (word_at s k) ∙ rw em refl in
    e ∙ rw (le-leb (word_at s k) places few, left, frames, ei, take_all m q (omega (arith, n)), take_all places q (omega (arith, n)), n, eo) refl
