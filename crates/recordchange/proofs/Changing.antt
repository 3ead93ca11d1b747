-- What a call changes of a record's bytes is all that its port, written over them, changes.
use Rattle.std.specs.Prelude.{Option, Some, None}
use Prim.Native.Nat.{ℕ, ◌+◌, ◌*◌, ◌≤◌, ◌<◌}
use mathlib.Core.Bool.{true}
use mathlib.Core.List.{List, [], ◌∷◌, ◌++◌}
use mathlib.Core.Path.{◌≡◌, refl, sym, ◌∙◌, ap}
use native.Mathlib.Omega.{arith}
use lib.ListN.{length, set}
use borrow.Author.Tests.{lt-ltb, le-leb}
use Rattle.table.specs.Limits.{most_rows, class_places}
use Rattle.machine.specs.declared.Frame.{Frame}
use Rattle.machine.specs.declared.Change.{Change}
use Rattle.machine.specs.declared.Change.TheVariants.{LeftA, LeftB, LeftBest, JoinedA, JoinedB, JoinedBest}
use Rattle.machine.specs.declared.Effect.{Effect}
use Rattle.machine.specs.Limits.{best_places}
use Rattle.machine.specs.State.{at, State, Placed}
use Rattle.machine.specs.Time.{behind_head}
use Rattle.machine.specs.Effects.{changed_by, moved_to, carried_out, HasRow, Room}
use Rattle.words.specs.Words.{Bytes, word_at, stored}
use Rattle.words.proofs.Laws.{gathered_length, Rest, rest_whole, rest_stored}
use Rattle.recordbytes.specs.Layout.{clock_start, queuea_start, queueb_start, best_start, last_start, bounds_start, wire_start, frame_width, last_width, record_size}
use Rattle.recordbytes.specs.Record.{signed_word, frame_words, last_words, wire_words, frame_at, queue_at, table_over, queue_over, lasts_over, bounds_over, state_of, is_record, record_over}
use Rattle.recordbytes.proofs.Laws.{long, named_placed, Stands, table_again, named_stands, queue_same, queue_rest, queue_kept, queue_joined, lasts_kept, lasts_noted, bounds_kept}
use Rattle.recordchange.specs.Changed.{left_over, joined_over, noted_over, changed_over, numbers_over, effect_over}

module _ (s : List ℕ) (b : Bytes s) (ok : is_record s ≡ true) (e : Effect) where
  abbrev p : State
  p = state_of s

  few : Placed p
  few = named_placed s ok

  st : Stands p s
  st = named_stands s b ok

  room : record_size ≤ length s
  room = long s ok

  -- the bytes with the clock and the credits
  abbrev t : List ℕ
  t = numbers_over e s

  behind : Rest queuea_start s t
  behind = rest_stored (rest_whole s b) clock_start (e.clock ∷ signed_word e.credita ∷ signed_word e.creditb ∷ []) queuea_start (omega arith) (omega arith)

  -- a queue that is untouched so far
  count_is : (q : List Frame) (k : ℕ) → queuea_start ≤ k → queue_at s k ≡ q → word_at t k ≡ length q
  count_is q k h i = behind.same k h ∙ (sym (gathered_length (frame_at s) frame_width (k + 1) (word_at s k)) ∙ ap length i)

  a_is : queue_at s queuea_start ≡ p.a
  unfolding state_of
  a_is = refl

  b_is : queue_at s queueb_start ≡ p.b
  unfolding state_of
  b_is = refl

  best_is : queue_at s best_start ≡ p.best
  unfolding state_of
  best_is = refl

  -- what is left of it, and what it is with a frame more
  left_is : (q : List Frame) (k places : ℕ) → queuea_start ≤ k → queue_at s k ≡ q → length q ≤ places → left_over k places t ≡ queue_over k places (behind_head q) t
  left_is q k places h i r = rw (le-leb (word_at t k) places (rw (count_is q k h i) r)) (ap (λ (x : List Frame). queue_over k places (behind_head x) t) (queue_same behind k h ∙ i))

  joined_is : (q : List Frame) (k places : ℕ) (f : Frame) → queuea_start ≤ k → queue_at s k ≡ q → length q < places → joined_over k places f t ≡ stored (stored t k ((length q + 1) ∷ [])) (k + 1 + frame_width * length q) (frame_words f)
  joined_is q k places f h i r = rw (lt-ltb (word_at t k) places (rw (count_is q k h i) r)) (ap (λ (n : ℕ). stored (stored t k ((n + 1) ∷ [])) (k + 1 + frame_width * n) (frame_words f)) (count_is q k h i))

  -- ---- parts behind what was written, written again
  table_kept : table_over p.table s ≡ s
  table_kept = table_again s b p few st room

  module _ {n : ℕ} {u : List ℕ} (r : Rest n s u) where
    a_kept : n ≤ queuea_start → queue_over queuea_start class_places p.a u ≡ u
    a_kept h = queue_kept r room p.a queuea_start class_places h few.a (omega arith) st.a

    b_kept : n ≤ queueb_start → queue_over queueb_start class_places p.b u ≡ u
    b_kept h = queue_kept r room p.b queueb_start class_places h few.b (omega arith) st.b

    best_kept : n ≤ best_start → queue_over best_start best_places p.best u ≡ u
    best_kept h = queue_kept r room p.best best_start best_places h few.best (omega arith) st.best

    last_kept : n ≤ last_start → lasts_over p.table.rows p.last u ≡ u
    last_kept h = lasts_kept r room p few st h

    last_noted : (f : Frame) → n ≤ last_start → HasRow f p → lasts_over p.table.rows (set p.last f.source (at f.taken)) u ≡ noted_over f u
    last_noted f h g = rw (lt-ltb f.source most_rows g.0) (lasts_noted r room p few st f.source (at f.taken) h g.1 g.2)

    noted_rest : (f : Frame) → n ≤ bounds_start → HasRow f p → Rest bounds_start s (noted_over f u)
    noted_rest f h g = rw (lt-ltb f.source most_rows g.0) (rest_stored r (last_start + last_width * f.source) (last_words (at f.taken)) bounds_start h (omega (arith, g.0)))

    bound_kept : n ≤ bounds_start → bounds_over p.bounds u ≡ u
    bound_kept h = bounds_kept r room p few st h

  -- ---- the whole record
  pub over_by : (c : Option Change) → Room c p → stored (changed_over c t) wire_start (wire_words e.wire) ≡ record_over (moved_to e (changed_by c p)) s
  unfolding record_over
  over_by None r = rw (table_kept, a_kept behind (omega arith), b_kept behind (omega arith), best_kept behind (omega arith), last_kept behind (omega arith), bound_kept behind (omega arith)) refl
  over_by (Some LeftA) r =
      let u : Rest queueb_start s (queue_over queuea_start class_places (behind_head p.a) t) = queue_rest behind (behind_head p.a) queuea_start class_places queueb_start (omega arith) (omega arith) in
      rw (left_is p.a queuea_start class_places (omega arith) a_is r, table_kept, b_kept u (omega arith), best_kept u (omega arith), last_kept u (omega arith), bound_kept u (omega arith)) refl
  over_by (Some LeftB) r =
      let u : Rest best_start s (queue_over queueb_start class_places (behind_head p.b) t) = queue_rest behind (behind_head p.b) queueb_start class_places best_start (omega arith) (omega arith) in
      rw (left_is p.b queueb_start class_places (omega arith) b_is r, table_kept, a_kept behind (omega arith), best_kept u (omega arith), last_kept u (omega arith), bound_kept u (omega arith)) refl
  over_by (Some LeftBest) r =
      let u : Rest last_start s (queue_over best_start best_places (behind_head p.best) t) = queue_rest behind (behind_head p.best) best_start best_places last_start (omega arith) (omega arith) in
      rw (left_is p.best best_start best_places (omega arith) best_is r, table_kept, a_kept behind (omega arith), b_kept behind (omega arith), last_kept u (omega arith), bound_kept u (omega arith)) refl
  over_by (Some (JoinedA f)) r =
      let j = queue_joined behind room p.a queuea_start class_places f (omega arith) r.0 (omega arith) st.a in
      let u : Rest queueb_start s (queue_over queuea_start class_places (p.a ++ f ∷ []) t) = queue_rest behind (p.a ++ f ∷ []) queuea_start class_places queueb_start (omega arith) (omega arith) in
      rw (joined_is p.a queuea_start class_places f (omega arith) a_is r.0, ← j, table_kept, b_kept u (omega arith), best_kept u (omega arith), last_noted u f (omega arith) r.1, bound_kept (noted_rest u f (omega arith) r.1) (omega arith)) refl
  over_by (Some (JoinedB f)) r =
      let j = queue_joined behind room p.b queueb_start class_places f (omega arith) r.0 (omega arith) st.b in
      let u : Rest best_start s (queue_over queueb_start class_places (p.b ++ f ∷ []) t) = queue_rest behind (p.b ++ f ∷ []) queueb_start class_places best_start (omega arith) (omega arith) in
      rw (joined_is p.b queueb_start class_places f (omega arith) b_is r.0, ← j, table_kept, a_kept behind (omega arith), best_kept u (omega arith), last_noted u f (omega arith) r.1, bound_kept (noted_rest u f (omega arith) r.1) (omega arith)) refl
  over_by (Some (JoinedBest f)) r =
      let j = queue_joined behind room p.best best_start best_places f (omega arith) r (omega arith) st.best in
      let u : Rest last_start s (queue_over best_start best_places (p.best ++ f ∷ []) t) = queue_rest behind (p.best ++ f ∷ []) best_start best_places last_start (omega arith) (omega arith) in
      rw (joined_is p.best best_start best_places f (omega arith) best_is r, ← j, table_kept, a_kept behind (omega arith), b_kept behind (omega arith), last_kept u (omega arith), bound_kept u (omega arith)) refl

  pub all_changed : {u v w : List ℕ} → u ≡ t → v ≡ changed_over e.change u → w ≡ stored v wire_start (wire_words e.wire) → Room e.change p → w ≡ record_over (carried_out e p) s
  all_changed eu ev ew r = ew ∙ rw (ev, eu) (over_by e.change r)

-- what is written, whatever the bytes are
module _ (s : List ℕ) (e : Effect) where
  pub all_written : record_size ≤ length s → {u v w : List ℕ} → u ≡ numbers_over e s → v ≡ changed_over e.change u → w ≡ stored v wire_start (wire_words e.wire) → w ≡ effect_over e s
  all_written h eu ev ew = rw (le-leb record_size (length s) h) (ew ∙ rw (ev, eu) refl)
