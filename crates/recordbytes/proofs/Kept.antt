-- Parts that stand behind what was written: written again they change nothing, and a frame or an instant more is all that is written.
use Prim.Native.Nat.{ℕ, zero, suc, ◌+◌, ◌*◌, ◌≤◌, ◌<◌}
use mathlib.Core.Bool.{true}
use mathlib.Core.List.{List, [], ◌∷◌, ◌++◌}
use mathlib.Core.Path.{◌≡◌, refl, ◌∙◌}
use native.Mathlib.Omega.{arith}
use lib.ListN.{length, take, set, length-append, length-set, length-take}
use lib.Seq.{take_all}
use Rattle.table.specs.declared.Row.{Row}
use Rattle.table.specs.Limits.{most_rows}
use Rattle.table.specs.Rows.{is_there, row_at, Contents}
use Rattle.machine.specs.declared.Frame.{Frame}
use Rattle.machine.specs.State.{Instant, State, Placed}
use Rattle.words.specs.Words.{word_at, stored, gathered}
use Rattle.words.proofs.Laws.{Held, held_same, Rest, rest_stored, rest_spread, held_rest, each_rest, spread_more, spread_set}
use Rattle.rowbytes.specs.Row.{row_width, row_words}
use Rattle.rowbytes.proofs.Laws.{row_wide}
use Rattle.recordbytes.specs.Layout.{head_start, rows_start, clock_start, last_start, bounds_start, wire_start, frame_width, last_width, bound_width, record_width, record_size}
use Rattle.recordbytes.specs.Record.{head_words, frame_words, last_words, marked, marked_words, bound_words, frame_at, queue_at, table_over, queue_over, lasts_over, bounds_over}
use Rattle.recordbytes.proofs.Marks.{last_length, marked_length, marked_set, mark_wide}
use Rattle.recordbytes.proofs.Stands.{Queued, Stands, queue_again, lasts_again, bounds_again}

module _ {n : ℕ} {s t : List ℕ} (r : Rest n s t) where
  -- a queue behind what was written is the same
  pub frames_same : (k m : ℕ) → n ≤ k → gathered (frame_at t) frame_width k m ≡ gathered (frame_at s) frame_width k m
  unfolding gathered
  frames_same k zero h = refl
  frames_same k (suc m) h = rw (r.same k h, r.same (k + 1) (omega arith), r.same (k + 2) (omega arith), frames_same (k + frame_width) m (omega arith)) refl

  pub queue_same : (k : ℕ) → n ≤ k → queue_at t k ≡ queue_at s k
  queue_same k h = rw (r.same k h) (frames_same (k + 1) (word_at s k) (omega arith))

  pub queue_stays : (q : List Frame) (k : ℕ) → n ≤ k → Queued q s k → Queued q t k
  queue_stays q k h e = record { count = held_rest r k (length q ∷ []) h e.count; frames = each_rest frame_words frame_width r (k + 1) q (omega arith) e.frames }

  -- what is behind a queue that was written
  pub queue_rest : (q : List Frame) (k places m : ℕ) → n ≤ m → k + 1 + frame_width * places ≤ m → Rest m s (queue_over k places q t)
  unfolding queue_over
  queue_rest q k places m h l =
      rest_spread frame_words frame_width (λ x. omega arith) (rest_stored r k (length q ∷ []) m h (omega arith)) (k + 1) (take places q) m (omega arith) (omega (arith, length-take places q))

  -- behind a table, the last instants and the bounds
  pub table_rest : (c : Contents) → n ≤ clock_start → Rest clock_start s (table_over c t)
  unfolding table_over
  table_rest c h =
      rest_spread row_words row_width row_wide (rest_stored r head_start (head_words c) clock_start h (omega arith)) rows_start (take most_rows c.rows) clock_start (omega arith) (omega (arith, length-take most_rows c.rows))

  pub lasts_rest : (rows : List Row) (last : List Instant) → n ≤ bounds_start → Rest bounds_start s (lasts_over rows last t)
  lasts_rest rows last h = rest_spread marked_words last_width mark_wide r last_start (take most_rows (marked rows last)) bounds_start h (omega (arith, length-take most_rows (marked rows last)))

  pub bounds_rest : (bounds : List ℕ) → n ≤ wire_start → Rest wire_start s (bounds_over bounds t)
  bounds_rest bounds h = rest_spread bound_words bound_width (λ w. omega arith) r bounds_start (take most_rows bounds) wire_start h (omega (arith, length-take most_rows bounds))

  module _ (room : record_size ≤ length s) where
    pub words_kept : (k : ℕ) (ws : List ℕ) → n ≤ k → k + length ws ≤ record_width → Held s k ws → stored t k ws ≡ t
    words_kept k ws h fits e = held_same t r.bytes k ws (omega (arith, r.size)) (held_rest r k ws h e)

    pub queue_kept : (q : List Frame) (k places : ℕ) → n ≤ k → length q ≤ places → k + 1 + frame_width * places ≤ record_width → Queued q s k → queue_over k places q t ≡ t
    queue_kept q k places h few fits e = queue_again t r.bytes q k places few (omega (arith, r.size)) (queue_stays q k h e)

    -- the last instants, as they are and with another one, and the bounds
    module _ (p : State) (few : Placed p) (st : Stands p s) where
      abbrev marks : List (Row × Instant)
      marks = marked p.table.rows p.last

      marks_few : length marks ≤ most_rows
      marks_few = rw (marked_length p.table.rows p.last) few.rows

      pub lasts_kept : n ≤ last_start → lasts_over p.table.rows p.last t ≡ t
      lasts_kept h = lasts_again t r.bytes p few (rw r.size room) (each_rest marked_words last_width r last_start marks h st.last)

      pub lasts_noted : (i : ℕ) (x : Instant) → n ≤ last_start → i < length p.last → is_there (row_at p.table i) ≡ true → lasts_over p.table.rows (set p.last i x) t ≡ stored t (last_start + last_width * i) (last_words x)
      lasts_noted i x h l e =
          let m : Row × Instant = (row_at p.table i, x) in
          let below : i < length marks = rw (marked_length p.table.rows p.last, ← last_length p few) l in
          rw (marked_set p.table.rows p.last i x l, take_all most_rows (set marks i m) (rw length-set marks_few))
          (spread_set marked_words last_width mark_wide t r.bytes last_start marks i m below (omega (arith, marks_few, r.size)) (each_rest marked_words last_width r last_start marks h st.last) ∙ rw e refl)

      pub bounds_kept : n ≤ bounds_start → bounds_over p.bounds t ≡ t
      bounds_kept h = bounds_again t r.bytes p few (rw r.size room) (each_rest bound_words bound_width r bounds_start p.bounds h st.bounds)

    -- a frame behind those that wait
    pub queue_joined : (q : List Frame) (k places : ℕ) (x : Frame) → n ≤ k → length q < places → k + 1 + frame_width * places ≤ record_width → Queued q s k → queue_over k places (q ++ x ∷ []) t ≡ stored (stored t k ((length q + 1) ∷ [])) (k + 1 + frame_width * length q) (frame_words x)
    unfolding queue_over
    queue_joined q k places x h few fits e =
        let one : length (q ++ x ∷ []) ≡ length q + 1 = length-append q (x ∷ []) in
        let b : Rest (k + 1) s (stored t k ((length q + 1) ∷ [])) = rest_stored r k ((length q + 1) ∷ []) (k + 1) (omega arith) (omega arith) in
        rw (take_all places (q ++ x ∷ []) (rw one (omega arith)), one)
        (spread_more frame_words frame_width (λ y. omega arith) (stored t k ((length q + 1) ∷ [])) b.bytes (k + 1) q x (omega (arith, b.size)) (each_rest frame_words frame_width b (k + 1) q (omega arith) e.frames))
