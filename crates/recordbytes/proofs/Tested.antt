-- What the tests of a record's bytes tell: how long they are, the header's words, and counts within the places.
use Prim.Native.Nat.{ℕ, ◌+◌, ◌≤◌}
use mathlib.Core.Bool.{true, ◌&&◌}
use mathlib.Core.List.{List}
use mathlib.Core.Path.{◌≡◌, sym, ◌∙◌}
use lib.Dec.{leb, eqb}
use lib.ListN.{length}
use borrow.Author.Tests.{leb-true, eqb-true}
use Rattle.table.specs.Limits.{most_rows}
use Rattle.table.proofs.Laws.{and-true}
use Rattle.machine.specs.Limits.{class_places, best_places}
use Rattle.machine.specs.State.{Placed}
use Rattle.machine.proofs.FromSound.{Each, each_true}
use Rattle.words.specs.Words.{word_at, gathered}
use Rattle.machine.proofs.Instants.{for_again}
use Rattle.words.proofs.Laws.{gathered_length}
use Rattle.rowbytes.specs.Row.{row_width, row_at, fits_u16, fits_u32}
use Rattle.recordbytes.specs.Layout.{version, head_start, rows_start, queuea_start, queueb_start, best_start, last_start, bounds_start, idlea_place, idleb_place, payload_place, count_place, frame_width, last_width, bound_width, record_size}
use Rattle.recordbytes.specs.Record.{frame_at, instant_at, rows_at, state_of, head_fits, queue_fits, record_tests, is_record}

pub record Head (s : List ℕ) : Type 0 where
  pub version : word_at s head_start ≡ version
  pub rows : word_at s count_place ≤ most_rows
  pub idlea : fits_u32 (word_at s idlea_place) ≡ true
  pub idleb : fits_u32 (word_at s idleb_place) ≡ true
  pub payload : fits_u16 (word_at s payload_place) ≡ true

pub head_words_lem : (s : List ℕ) → head_fits s ≡ true → Head s
unfolding head_fits
head_words_lem s e =
    let p = and-true (eqb (word_at s head_start) version && leb (word_at s count_place) most_rows) _ e in
    let q = and-true (eqb (word_at s head_start) version) (leb (word_at s count_place) most_rows) p.0 in
    let r = and-true (fits_u32 (word_at s idlea_place) && fits_u32 (word_at s idleb_place)) (fits_u16 (word_at s payload_place)) p.1 in
    let i = and-true (fits_u32 (word_at s idlea_place)) (fits_u32 (word_at s idleb_place)) r.0 in
    record { version = eqb-true (word_at s head_start) version q.0; rows = leb-true (word_at s count_place) most_rows q.1; idlea = i.0; idleb = i.1; payload = r.1 }

pub queue_count : (s : List ℕ) (k places : ℕ) → queue_fits s k places ≡ true → word_at s k ≤ places
unfolding queue_fits
queue_count s k places e = leb-true (word_at s k) places (and-true (leb (word_at s k) places) _ e).0

pub record Counts (s : List ℕ) : Type 0 where
  pub rows : word_at s count_place ≤ most_rows
  pub a : word_at s queuea_start ≤ class_places
  pub b : word_at s queueb_start ≤ class_places
  pub best : word_at s best_start ≤ best_places

module _ (s : List ℕ) (e : is_record s ≡ true) where
  pub tests : Each (record_tests s)
  unfolding is_record
  tests = each_true (record_tests s) e

  pub long : record_size ≤ length s
  long = leb-true record_size (length s) tests.0

  pub head : Head s
  head = head_words_lem s tests.1.0

  pub counts : Counts s
  counts =
      record {
        rows = head.rows;
        a = queue_count s queuea_start class_places tests.1.1.1.0;
        b = queue_count s queueb_start class_places tests.1.1.1.1.0;
        best = queue_count s best_start best_places tests.1.1.1.1.1.0;
      }

  pub named_placed : Placed (state_of s)
  unfolding state_of
  named_placed =
      record {
        rows = rw (gathered_length (row_at s) row_width rows_start (word_at s count_place)) counts.rows;
        bounds = gathered_length (word_at s) bound_width bounds_start (word_at s count_place) ∙ sym (gathered_length (row_at s) row_width rows_start (word_at s count_place));
        a = rw (gathered_length (frame_at s) frame_width (queuea_start + 1) (word_at s queuea_start)) counts.a;
        b = rw (gathered_length (frame_at s) frame_width (queueb_start + 1) (word_at s queueb_start)) counts.b;
        best = rw (gathered_length (frame_at s) frame_width (best_start + 1) (word_at s best_start)) counts.best;
        last = for_again (rows_at s) (gathered (instant_at s) last_width last_start (word_at s count_place));
      }
