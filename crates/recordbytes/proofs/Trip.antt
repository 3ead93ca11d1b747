-- A record's bytes and its port: each way undoes the other.
use Prim.Native.Nat.{ℕ, ◌+◌, ◌*◌, ◌≤◌}
use mathlib.Core.List.{List, [], ◌∷◌}
use mathlib.Core.Path.{◌≡◌, ◌∙◌}
use native.Mathlib.Omega.{arith}
use lib.ListN.{length, take, get_or, length-take}
use Rattle.table.specs.Limits.{most_rows}
use Rattle.machine.specs.declared.Frame.{Frame}
use Rattle.machine.specs.Limits.{class_places, best_places}
use Rattle.machine.specs.State.{State}
use Rattle.words.specs.Words.{stored}
use Rattle.words.proofs.Laws.{stored_length, spread_length, stored_behind, spread_behind}
use Rattle.rowbytes.specs.Row.{row_width, row_words}
use Rattle.rowbytes.proofs.Laws.{row_wide}
use Rattle.recordbytes.specs.Layout.{head_start, rows_start, clock_start, queuea_start, queueb_start, best_start, last_start, bounds_start, wire_start, frame_width, last_width, bound_width, record_size}
use Rattle.recordbytes.specs.Record.{head_words, number_words, frame_words, marked, marked_words, bound_words, wire_words, table_over, queue_over, record_over}
use Rattle.recordbytes.specs.RoundTrip.{ReadingWritten, WritingRead, ReadFits, BehindKept, SameParts}
use Rattle.recordbytes.proofs.Marks.{mark_wide}
use Rattle.recordbytes.proofs.Stands.{wire_wide, queue_length, written_stands, stands_read, stands_record, stands_again, named_stands, named_numbered}
use Rattle.recordbytes.proofs.Tested.{long, named_placed}
use Rattle.recordbytes.proofs.Placing.{view_from}

-- ---- how many bytes there are, and those behind the record
queue_behind : (k places : ℕ) (q : List Frame) (s : List ℕ) (i : ℕ) → 8 * (k + 1 + frame_width * places) ≤ i → get_or (queue_over k places q s) i 0 ≡ get_or s i 0
unfolding queue_over
queue_behind k places q s i h =
    spread_behind frame_words frame_width (λ x. omega arith) (k + 1) (take places q) (stored s k (length q ∷ [])) i (omega (arith, length-take places q)) ∙ stored_behind s k (length q ∷ []) i (omega arith)

record_length : (p : State) (s : List ℕ) → length (record_over p s) ≡ length s
unfolding record_over table_over
record_length p s =
    rw (
      stored_length _ wire_start (wire_words p.wire),
      spread_length bound_words bound_width bounds_start (take most_rows p.bounds) _,
      spread_length marked_words last_width last_start (take most_rows (marked p.table.rows p.last)) _,
      queue_length best_start best_places p.best _,
      queue_length queueb_start class_places p.b _,
      queue_length queuea_start class_places p.a _,
      stored_length _ clock_start (number_words p),
      spread_length row_words row_width rows_start (take most_rows p.table.rows) _,
    )
    (stored_length s head_start (head_words p.table))

record_behind : (p : State) (s : List ℕ) (i : ℕ) → record_size ≤ i → get_or (record_over p s) i 0 ≡ get_or s i 0
unfolding record_over table_over
record_behind p s i h =
    rw (
      stored_behind _ wire_start (wire_words p.wire) i (omega (arith, wire_wide p.wire)),
      spread_behind bound_words bound_width (λ w. omega arith) bounds_start (take most_rows p.bounds) _ i (omega (arith, length-take most_rows p.bounds)),
      spread_behind marked_words last_width mark_wide last_start (take most_rows (marked p.table.rows p.last)) _ i (omega (arith, length-take most_rows (marked p.table.rows p.last))),
      queue_behind best_start best_places p.best _ i (omega arith),
      queue_behind queueb_start class_places p.b _ i (omega arith),
      queue_behind queuea_start class_places p.a _ i (omega arith),
      stored_behind _ clock_start (number_words p) i (omega arith),
      spread_behind row_words row_width row_wide rows_start (take most_rows p.table.rows) _ i (omega (arith, length-take most_rows p.table.rows)),
    )
    (stored_behind s head_start (head_words p.table) i (omega arith))

-- ---- the theorems
pub behind_kept : BehindKept
behind_kept p s = record { size = record_length p s; behind = record_behind p s }

pub reading_written : ReadingWritten
reading_written p s f room =
    let st = written_stands p s f room in
    record { record_bytes = stands_record p (record_over p s) f st (rw (record_length p s) room); port = stands_read p (record_over p s) f st }

pub writing_read : WritingRead
writing_read s b e = stands_again s b _ (named_placed s e) (named_stands s b e) (long s e)

pub read_fits : ReadFits
read_fits s b e = record { placed = named_placed s e; numbered = named_numbered s b }

pub same_parts : SameParts
same_parts p h = view_from p h
