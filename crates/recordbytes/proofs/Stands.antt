-- A port's parts stand in bytes, each at its place: so they do in what is written, and then they are what is read.
use Prim.Native.Nat.{ℕ, zero, suc, ◌+◌, ◌*◌, ◌≤◌}
use mathlib.Core.Bool.{true}
use mathlib.Core.List.{List, [], ◌∷◌}
use mathlib.Core.Path.{◌≡◌, refl, sym, ◌∙◌}
use native.Mathlib.Omega.{arith}
use lib.Dec.{leb, eqb}
use lib.ListN.{length, take}
use lib.Seq.{take_all}
use borrow.Author.Tests.{le-leb}
use Rattle.table.specs.declared.Row.{Row}
use Rattle.table.specs.Limits.{most_rows}
use Rattle.table.proofs.Laws.{and-true}
use Rattle.machine.specs.declared.Frame.{Frame}
use Rattle.machine.specs.declared.Wire.{Wire}
use Rattle.machine.specs.declared.Wire.TheVariants.{Free, Sending}
use Rattle.machine.specs.Limits.{class_places, best_places}
use Rattle.machine.specs.State.{Instant, instants_for, State, Placed}
use Rattle.words.specs.Words.{Every, Word, Bytes, word_at, stored, spread, gathered}
use Rattle.words.proofs.Laws.{stored_length, Held, held_stored, held_same, word_small, Agree, agree_more, stored_agrees, held_agrees, spread_length, spread_agrees, HeldEach, each_agrees, spread_held, each_same, gathered_back, gathered_length, gathered_every}
use Rattle.rowbytes.specs.Row.{row_width, row_words, row_at, row_fits}
use Rattle.rowbytes.specs.Fits.{RowFits}
use Rattle.rowbytes.proofs.Laws.{both, bits_back, bits_fits, bits_same, row_wide, row_words_lem, row_back, row_fits_lem, row_same, row_small}
use Rattle.recordbytes.specs.Layout.{version, head_start, rows_start, clock_start, queuea_start, queueb_start, best_start, last_start, bounds_start, wire_start, idlea_place, idleb_place, payload_place, count_place, frame_width, last_width, bound_width, wire_width, record_size}
use Rattle.recordbytes.specs.Record.{head_words, number_words, frame_words, marked, marked_words, bound_words, wire_words, table_over, queue_over, lasts_over, bounds_over, record_over, frame_at, instant_at, queue_at, rows_at, state_of, head_fits, frame_fits, mark_fits, each, queue_fits, record_tests, is_record}
use Rattle.recordbytes.specs.Fits.{FrameFits, InstantFits, Numbered, Fits}
use Rattle.recordbytes.proofs.Lists.{true_each, held_each, each_held}
use Rattle.recordbytes.proofs.Tested.{tests, head}
use Rattle.recordbytes.proofs.Fields as field
use Rattle.recordbytes.proofs.Marks.{MarkFits, last_length, marked_length, marked_fits, for_fits, mark_wide, mark_words, marks_back, marks_fit, marks_held}

-- a queue: how many wait, and their frames
pub record Queued (q : List Frame) (s : List ℕ) (k : ℕ) : Type 0 where
  pub count : Held s k (length q ∷ [])
  pub frames : HeldEach frame_words frame_width s (k + 1) q

pub record Stands (p : State) (s : List ℕ) : Type 0 where
  pub head : Held s head_start (head_words p.table)
  pub rows : HeldEach row_words row_width s rows_start p.table.rows
  pub numbers : Held s clock_start (number_words p)
  pub a : Queued p.a s queuea_start
  pub b : Queued p.b s queueb_start
  pub best : Queued p.best s best_start
  pub last : HeldEach marked_words last_width s last_start (marked p.table.rows p.last)
  pub bounds : HeldEach bound_words bound_width s bounds_start p.bounds
  pub wire : Held s wire_start (wire_words p.wire)

-- how many words it has
pub wire_wide : (w : Wire) → length (wire_words w) ≤ wire_width
wire_wide Free = omega arith
wire_wide (Sending f left) = omega arith

-- ---- what was written stands
pub queue_length : (k places : ℕ) (q : List Frame) (s : List ℕ) → length (queue_over k places q s) ≡ length s
unfolding queue_over
queue_length k places q s = spread_length frame_words frame_width (k + 1) (take places q) (stored s k (length q ∷ [])) ∙ stored_length s k (length q ∷ [])

module _ (q : List Frame) (places : ℕ) (few : length q ≤ places) (s : List ℕ) (k : ℕ) where
  all_placed : take places q ≡ q
  all_placed = take_all places q few

  pub queue_agrees : Agree k s (queue_over k places q s)
  unfolding queue_over
  queue_agrees = agree_more (omega arith) (stored_agrees s k (length q ∷ [])) (spread_agrees frame_words frame_width (k + 1) (take places q) (stored s k (length q ∷ [])))

  pub queue_stands : Every FrameFits q → Word (length q) → 8 * (k + 1 + frame_width * length q) ≤ length s → Queued q (queue_over k places q s) k
  unfolding queue_over
  queue_stands f w room =
      let t = stored s k (length q ∷ []) in
      let n : length t ≡ length s = stored_length s k (length q ∷ []) in
      rw all_placed
      (record {
        count = held_agrees (k + 1) t (spread frame_words frame_width (k + 1) q t) k (length q ∷ []) (omega arith) (spread_agrees frame_words frame_width (k + 1) q t) (held_stored s k (length q ∷ []) (w, tt) (omega arith));
        frames = spread_held frame_words frame_width (λ x. omega arith) FrameFits (field.frame_words_lem t) (k + 1) q t f (omega arith);
      })

pub queue_later : (n : ℕ) (s t : List ℕ) (q : List Frame) (k : ℕ) → k + 1 + frame_width * length q ≤ n → Agree n s t → Queued q s k → Queued q t k
queue_later n s t q k h g r =
    record { count = held_agrees n s t k (length q ∷ []) (omega arith) g r.count; frames = each_agrees frame_words frame_width (λ x. omega arith) n s t (k + 1) q h g r.frames }

module _ (p : State) (s : List ℕ) (fits : Fits p) (room : record_size ≤ length s) where
  -- the bytes after each part
  abbrev b1 : List ℕ
  b1 = stored s head_start (head_words p.table)

  abbrev b2 : List ℕ
  b2 = spread row_words row_width rows_start (take most_rows p.table.rows) b1

  abbrev b3 : List ℕ
  b3 = stored b2 clock_start (number_words p)

  abbrev b4 : List ℕ
  b4 = queue_over queuea_start class_places p.a b3

  abbrev b5 : List ℕ
  b5 = queue_over queueb_start class_places p.b b4

  abbrev b6 : List ℕ
  b6 = queue_over best_start best_places p.best b5

  abbrev b7 : List ℕ
  b7 = lasts_over p.table.rows p.last b6

  abbrev b8 : List ℕ
  b8 = bounds_over p.bounds b7

  abbrev b9 : List ℕ
  b9 = stored b8 wire_start (wire_words p.wire)

  -- the numbers with their last instants
  abbrev marks : List (Row × Instant)
  marks = marked p.table.rows p.last

  marks_few : length marks ≤ most_rows
  marks_few = rw (marked_length p.table.rows p.last) fits.placed.rows

  rows_all : take most_rows p.table.rows ≡ p.table.rows
  rows_all = take_all most_rows p.table.rows fits.placed.rows

  marks_all : take most_rows marks ≡ marks
  marks_all = take_all most_rows marks (omega (arith, marks_few))

  bounds_all : take most_rows p.bounds ≡ p.bounds
  bounds_all = take_all most_rows p.bounds (omega (arith, fits.placed.rows, fits.placed.bounds))

  l1 : length b1 ≡ length s
  l1 = stored_length s head_start (head_words p.table)

  l2 : length b2 ≡ length s
  l2 = spread_length row_words row_width rows_start (take most_rows p.table.rows) b1 ∙ l1

  l3 : length b3 ≡ length s
  l3 = stored_length b2 clock_start (number_words p) ∙ l2

  l4 : length b4 ≡ length s
  l4 = queue_length queuea_start class_places p.a b3 ∙ l3

  l5 : length b5 ≡ length s
  l5 = queue_length queueb_start class_places p.b b4 ∙ l4

  l6 : length b6 ≡ length s
  l6 = queue_length best_start best_places p.best b5 ∙ l5

  l7 : length b7 ≡ length s
  l7 = spread_length marked_words last_width last_start (take most_rows marks) b6 ∙ l6

  l8 : length b8 ≡ length s
  l8 = spread_length bound_words bound_width bounds_start (take most_rows p.bounds) b7 ∙ l7

  -- what stands before a part is left alone by it and by those behind it
  a8 : Agree wire_start b8 b9
  a8 = stored_agrees b8 wire_start (wire_words p.wire)

  a7 : Agree bounds_start b7 b9
  a7 = agree_more (omega arith) (spread_agrees bound_words bound_width bounds_start (take most_rows p.bounds) b7) a8

  a6 : Agree last_start b6 b9
  a6 = agree_more (omega arith) (spread_agrees marked_words last_width last_start (take most_rows marks) b6) a7

  a5 : Agree best_start b5 b9
  a5 = agree_more (omega arith) (queue_agrees p.best best_places fits.placed.best b5 best_start) a6

  a4 : Agree queueb_start b4 b9
  a4 = agree_more (omega arith) (queue_agrees p.b class_places fits.placed.b b4 queueb_start) a5

  a3 : Agree queuea_start b3 b9
  a3 = agree_more (omega arith) (queue_agrees p.a class_places fits.placed.a b3 queuea_start) a4

  a2 : Agree clock_start b2 b9
  a2 = agree_more (omega arith) (stored_agrees b2 clock_start (number_words p)) a3

  a1 : Agree rows_start b1 b9
  a1 = agree_more (omega arith) (spread_agrees row_words row_width rows_start (take most_rows p.table.rows) b1) a2

  head_words_lem : Every Word (head_words p.table)
  head_words_lem =
      let h = fits.numbered.header in
      (omega arith, (omega (arith, h.idlea), (omega (arith, h.idleb), (omega (arith, h.payload), (omega (arith, fits.placed.rows), tt)))))

  number_words_lem : Every Word (number_words p)
  number_words_lem = (fits.numbered.clock, (field.signed_word_lem p.credita fits.numbered.credita, (field.signed_word_lem p.creditb fits.numbered.creditb, tt)))

  rows_stand : HeldEach row_words row_width b2 rows_start p.table.rows
  rows_stand =
      rw rows_all (spread_held row_words row_width row_wide RowFits (row_words_lem b1) rows_start p.table.rows b1 fits.numbered.rows (omega (arith, l1, fits.placed.rows)))

  last_stand : HeldEach marked_words last_width b7 last_start marks
  last_stand =
      rw marks_all
      (spread_held marked_words last_width mark_wide MarkFits (mark_words b6) last_start marks b6 (marked_fits p.table.rows p.last fits.numbered.last) (omega (arith, l6, marks_few)))

  bounds_stand : HeldEach bound_words bound_width b8 bounds_start p.bounds
  bounds_stand =
      rw bounds_all
      (spread_held bound_words bound_width (λ w. omega arith) Word (λ w h. (h, tt)) bounds_start p.bounds b7 fits.numbered.bounds (omega (arith, l7, fits.placed.rows, fits.placed.bounds)))

  pub written_stands : Stands p (record_over p s)
  unfolding record_over table_over
  written_stands =
      record {
        head = held_agrees rows_start b1 b9 head_start (head_words p.table) (omega arith) a1 (held_stored s head_start (head_words p.table) head_words_lem (omega arith));
        rows = each_agrees row_words row_width row_wide clock_start b2 b9 rows_start p.table.rows (omega (arith, fits.placed.rows)) a2 rows_stand;
        numbers = held_agrees queuea_start b3 b9 clock_start (number_words p) (omega arith) a3 (held_stored b2 clock_start (number_words p) number_words_lem (omega (arith, l2)));
        a = queue_later queueb_start b4 b9 p.a queuea_start (omega (arith, fits.placed.a)) a4 (queue_stands p.a class_places fits.placed.a b3 queuea_start fits.numbered.a (omega (arith, fits.placed.a)) (omega (arith, l3, fits.placed.a)));
        b = queue_later best_start b5 b9 p.b queueb_start (omega (arith, fits.placed.b)) a5 (queue_stands p.b class_places fits.placed.b b4 queueb_start fits.numbered.b (omega (arith, fits.placed.b)) (omega (arith, l4, fits.placed.b)));
        best = queue_later last_start b6 b9 p.best best_start (omega (arith, fits.placed.best)) a6 (queue_stands p.best best_places fits.placed.best b5 best_start fits.numbered.best (omega (arith, fits.placed.best)) (omega (arith, l5, fits.placed.best)));
        last = each_agrees marked_words last_width mark_wide bounds_start b7 b9 last_start marks (omega (arith, marks_few)) a7 last_stand;
        bounds = each_agrees bound_words bound_width (λ w. omega arith) wire_start b8 b9 bounds_start p.bounds (omega (arith, fits.placed.rows, fits.placed.bounds)) a8 bounds_stand;
        wire = held_stored b8 wire_start (wire_words p.wire) (field.wire_words_lem b8 p.wire fits.numbered.wire) (omega (arith, l8, wire_wide p.wire));
      }

-- ---- what stands is read
module _ (p : State) (s : List ℕ) (fits : Fits p) (st : Stands p s) where
  queue_read : (q : List Frame) (k : ℕ) → Every FrameFits q → Queued q s k → queue_at s k ≡ q
  queue_read q k f r = rw r.count.0 (gathered_back frame_words frame_width s (frame_at s) FrameFits (field.frame_back s) (k + 1) q f r.frames)

  -- how many rows there are
  rows_count : word_at s count_place ≡ length p.table.rows
  rows_count = st.head.1.1.1.1.0

  rows_read : rows_at s ≡ p.table.rows
  rows_read = rw (← rows_count) at (gathered_back row_words row_width s (row_at s) RowFits (row_back s) rows_start p.table.rows fits.numbered.rows st.rows)

  bounds_read : gathered (word_at s) bound_width bounds_start (word_at s count_place) ≡ p.bounds
  bounds_read =
      rw (rows_count ∙ sym fits.placed.bounds) (gathered_back bound_words bound_width s (word_at s) Word (λ w k f h. h.0) bounds_start p.bounds fits.numbered.bounds st.bounds)

  last_read : instants_for p.table.rows (gathered (instant_at s) last_width last_start (word_at s count_place)) ≡ p.last
  last_read = rw rows_count (marks_back s p.table.rows p.last last_start (last_length p fits.placed) fits.numbered.last st.last) ∙ fits.placed.last

  pub stands_read : state_of s ≡ p
  unfolding state_of
  stands_read =
      let h = fits.numbered.header in
      rw (
        bits_back 32 st.head.1.0 h.idlea,
        bits_back 32 st.head.1.1.0 h.idleb,
        bits_back 16 st.head.1.1.1.0 h.payload,
        rows_read,
        bounds_read,
        st.numbers.0,
        field.signed_back p.credita st.numbers.1.0 fits.numbered.credita,
        field.signed_back p.creditb st.numbers.1.1.0 fits.numbered.creditb,
        queue_read p.a queuea_start fits.numbered.a st.a,
        queue_read p.b queueb_start fits.numbered.b st.b,
        queue_read p.best best_start fits.numbered.best st.best,
        last_read,
        field.wire_back s p.wire wire_start fits.numbered.wire st.wire,
      )
      refl

  queue_fits_lem : (q : List Frame) (k places : ℕ) → length q ≤ places → Every FrameFits q → Queued q s k → queue_fits s k places ≡ true
  unfolding queue_fits
  queue_fits_lem q k places few f r =
      rw r.count.0 (both (le-leb (length q) places few) (held_each frame_words frame_width s (frame_fits s) FrameFits (field.frame_fits_lem s) (k + 1) q f r.frames))

  head_fits_lem : head_fits s ≡ true
  unfolding head_fits
  head_fits_lem =
      let h = fits.numbered.header in
      let right : eqb (word_at s head_start) version ≡ true = rw st.head.0 refl in
      let few : leb (word_at s count_place) most_rows ≡ true = rw rows_count (le-leb (length p.table.rows) most_rows fits.placed.rows) in
      both (both right few)
      (both (both (bits_fits 32 st.head.1.0 h.idlea) (bits_fits 32 st.head.1.1.0 h.idleb)) (bits_fits 16 st.head.1.1.1.0 h.payload))

  rows_fit : each (row_fits s) row_width rows_start (word_at s count_place) ≡ true
  rows_fit = rw rows_count (held_each row_words row_width s (row_fits s) RowFits (row_fits_lem s) rows_start p.table.rows fits.numbered.rows st.rows)

  last_fit : each (mark_fits s) 1 0 (word_at s count_place) ≡ true
  last_fit = marks_fit s 0 (word_at s count_place) p.last (last_length p fits.placed ∙ sym rows_count) fits.numbered.last (rw rows_read st.last)

  pub stands_record : record_size ≤ length s → is_record s ≡ true
  unfolding is_record
  stands_record room =
      true_each (record_tests s) (
        le-leb record_size (length s) room,
        (
          head_fits_lem,
          (
            rows_fit,
            (
              queue_fits_lem p.a queuea_start class_places fits.placed.a fits.numbered.a st.a,
              (
                queue_fits_lem p.b queueb_start class_places fits.placed.b fits.numbered.b st.b,
                (queue_fits_lem p.best best_start best_places fits.placed.best fits.numbered.best st.best, (last_fit, (field.wire_fits_lem s p.wire wire_start fits.numbered.wire st.wire, tt))),
              ),
            ),
          ),
        ),
      )

-- ---- what stands, written again
-- bounds are what stands
words_held : (s : List ℕ) (k n : ℕ) → HeldEach bound_words bound_width s k (gathered (word_at s) bound_width k n)
unfolding gathered
words_held s k zero = tt
words_held s k (suc n) = ((refl, tt), words_held s (k + bound_width) n)

module _ (s : List ℕ) (b : Bytes s) where
  pub queue_again : (q : List Frame) (k places : ℕ) → length q ≤ places → 8 * (k + 1 + frame_width * length q) ≤ length s → Queued q s k → queue_over k places q s ≡ s
  unfolding queue_over
  queue_again q k places few room r =
      rw (take_all places q few, held_same s b k (length q ∷ []) (omega arith) r.count) (each_same frame_words frame_width (λ x. omega arith) s b (k + 1) q room r.frames)

  pub table_again : (p : State) → Placed p → Stands p s → record_size ≤ length s → table_over p.table s ≡ s
  unfolding table_over
  table_again p few st room =
      rw (held_same s b head_start (head_words p.table) (omega arith) st.head, take_all most_rows p.table.rows few.rows)
      (each_same row_words row_width row_wide s b rows_start p.table.rows (omega (arith, few.rows)) st.rows)

  pub lasts_again : (p : State) → Placed p → record_size ≤ length s → HeldEach marked_words last_width s last_start (marked p.table.rows p.last) → lasts_over p.table.rows p.last s ≡ s
  lasts_again p few room h =
      let n = marked_length p.table.rows p.last in
      rw (take_all most_rows (marked p.table.rows p.last) (omega (arith, few.rows, n)))
      (each_same marked_words last_width mark_wide s b last_start (marked p.table.rows p.last) (omega (arith, few.rows, n)) h)

  pub bounds_again : (p : State) → Placed p → record_size ≤ length s → HeldEach bound_words bound_width s bounds_start p.bounds → bounds_over p.bounds s ≡ s
  bounds_again p few room h =
      rw (take_all most_rows p.bounds (omega (arith, few.rows, few.bounds)))
      (each_same bound_words bound_width (λ w. omega arith) s b bounds_start p.bounds (omega (arith, few.rows, few.bounds)) h)

  pub stands_again : (p : State) → Placed p → Stands p s → record_size ≤ length s → record_over p s ≡ s
  unfolding record_over
  stands_again p few st room =
      rw (
        table_again p few st room,
        held_same s b clock_start (number_words p) (omega arith) st.numbers,
        queue_again p.a queuea_start class_places few.a (omega (arith, few.a)) st.a,
        queue_again p.b queueb_start class_places few.b (omega (arith, few.b)) st.b,
        queue_again p.best best_start best_places few.best (omega (arith, few.best)) st.best,
        lasts_again p few room st.last,
        bounds_again p few room st.bounds,
      )
      (held_same s b wire_start (wire_words p.wire) (omega (arith, wire_wide p.wire)) st.wire)

  -- ---- what a record's bytes name stands in them, and fits
  queue_named : (k places : ℕ) → queue_fits s k places ≡ true → Queued (queue_at s k) s k
  unfolding queue_fits
  queue_named k places e =
      let n : length (queue_at s k) ≡ word_at s k = gathered_length (frame_at s) frame_width (k + 1) (word_at s k) in
      record { count = (sym n, tt); frames = each_held frame_words frame_width s (frame_fits s) (frame_at s) (field.frame_same s) (k + 1) (word_at s k) (and-true (leb (word_at s k) places) _ e).1 }

  pub named_stands : is_record s ≡ true → Stands (state_of s) s
  unfolding state_of
  named_stands e =
      let t = tests s e in
      let h = head s e in
      record {
        head = (h.version, (bits_same 32 (word_at s idlea_place) h.idlea, (bits_same 32 (word_at s idleb_place) h.idleb, (bits_same 16 (word_at s payload_place) h.payload, (sym (gathered_length (row_at s) row_width rows_start (word_at s count_place)), tt)))));
        rows = each_held row_words row_width s (row_fits s) (row_at s) (row_same s) rows_start (word_at s count_place) t.1.1.0;
        numbers = (refl, (field.signed_same (word_at s (clock_start + 1)) (word_small s b (clock_start + 1)), (field.signed_same (word_at s (clock_start + 2)) (word_small s b (clock_start + 2)), tt)));
        a = queue_named queuea_start class_places t.1.1.1.0;
        b = queue_named queueb_start class_places t.1.1.1.1.0;
        best = queue_named best_start best_places t.1.1.1.1.1.0;
        last = marks_held s 0 (word_at s count_place) t.1.1.1.1.1.1.0;
        bounds = words_held s bounds_start (word_at s count_place);
        wire = field.wire_same s wire_start t.1.1.1.1.1.1.1.0;
      }

  pub named_numbered : Numbered (state_of s)
  unfolding state_of
  named_numbered =
      record {
        header = record { idlea = omega arith; idleb = omega arith; payload = omega arith };
        rows = gathered_every RowFits (row_at s) row_width (row_small s) rows_start (word_at s count_place);
        bounds = gathered_every Word (word_at s) bound_width (word_small s b) bounds_start (word_at s count_place);
        clock = word_small s b clock_start;
        credita = field.signed_small (word_at s (clock_start + 1)) (word_small s b (clock_start + 1));
        creditb = field.signed_small (word_at s (clock_start + 2)) (word_small s b (clock_start + 2));
        a = gathered_every FrameFits (frame_at s) frame_width (field.frame_small s b) (queuea_start + 1) (word_at s queuea_start);
        b = gathered_every FrameFits (frame_at s) frame_width (field.frame_small s b) (queueb_start + 1) (word_at s queueb_start);
        best = gathered_every FrameFits (frame_at s) frame_width (field.frame_small s b) (best_start + 1) (word_at s best_start);
        last = for_fits (rows_at s) _ (gathered_every InstantFits (instant_at s) last_width (field.last_small s b) last_start (word_at s count_place));
        wire = field.wire_small s b wire_start;
      }
