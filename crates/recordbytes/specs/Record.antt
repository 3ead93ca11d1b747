-- A port record as bytes: the words of each part at its place, and what bytes are read as. Words that belong to no part, as those of queue places behind the last
-- frame and the last instants of empty numbers, are not looked at, and keep what they hold.
use Rattle.std.specs.Prelude.{ℕ, zero, suc, ◌+◌, ◌-◌, ◌*◌, Bool, true, cond, ◌&&◌, List, [], ◌∷◌, leb, eqb, ℤ, pos, negsuc, length, take}
use Rattle.table.specs.declared.Row.{Row}
use Rattle.table.specs.Limits.{most_rows}
use Rattle.table.specs.Rows.{is_there, Contents}
use Rattle.machine.specs.declared.Frame.{Frame}
use Rattle.machine.specs.declared.Wire.{Wire}
use Rattle.machine.specs.declared.Wire.TheVariants.{Free, Sending}
use Rattle.machine.specs.Limits.{class_places, best_places}
use Rattle.machine.specs.State.{Instant, never, at, instants_for, State}
use Rattle.machine.specs.Record.{all_true}
use Rattle.words.specs.Words.{word_at, stored, spread, gathered}
use Rattle.rowbytes.specs.Row.{row_width, row_words, u16_of, u32_of, row_at, fits_u16, fits_u32, fits_mark, row_fits}
use Rattle.recordbytes.specs.Layout.{version, head_start, rows_start, clock_start, queuea_start, queueb_start, best_start, last_start, bounds_start, wire_start, idlea_place, idleb_place, payload_place, count_place, frame_width, last_width, bound_width, record_size}

-- ---- the words of a port's parts
abbrev pub head_words : Contents → List ℕ
head_words t = version ∷ t.header.idlea ∷ t.header.idleb ∷ t.header.payload ∷ length t.rows ∷ []

-- Two's complement: −(n + 1) is 2 ^ 64 − 1 − n.
abbrev pub signed_word : ℤ → ℕ
signed_word (pos n) = n
signed_word (negsuc n) = 18446744073709551615 - n

abbrev pub number_words : State → List ℕ
number_words s = s.clock ∷ signed_word s.credita ∷ signed_word s.creditb ∷ []

abbrev pub frame_words : Frame → List ℕ
frame_words f = f.source ∷ f.size ∷ f.taken ∷ []

-- Of a row that has no last instant, and of a free wire, only the mark.
abbrev pub last_words : Instant → List ℕ
last_words never = 0 ∷ []
last_words (at k) = 1 ∷ k ∷ []

-- Each number's row with its last instant: of an empty number not even the mark is stored.
unfoldable pub marked : List Row → List Instant → List (Row × Instant)
marked [] is = []
marked (r ∷ rs) [] = (r, never) ∷ marked rs []
marked (r ∷ rs) (i ∷ is) = (r, i) ∷ marked rs is

abbrev pub marked_words : Row × Instant → List ℕ
marked_words m = cond (is_there m.0) (last_words m.1) []

abbrev pub bound_words : ℕ → List ℕ
bound_words b = b ∷ []

abbrev pub wire_words : Wire → List ℕ
wire_words Free = 0 ∷ []
wire_words (Sending f left) = 1 ∷ f.source ∷ f.size ∷ f.taken ∷ left ∷ []

-- ---- bytes with a port's parts stored over them: every word that belongs to no part keeps what it holds
unfoldable pub table_over : Contents → List ℕ → List ℕ
table_over t s = spread row_words row_width rows_start (take most_rows t.rows) (stored s head_start (head_words t))

unfoldable pub queue_over : ℕ → ℕ → List Frame → List ℕ → List ℕ
queue_over k places q s = spread frame_words frame_width (k + 1) (take places q) (stored s k (length q ∷ []))

abbrev pub lasts_over : List Row → List Instant → List ℕ → List ℕ
lasts_over rows last s = spread marked_words last_width last_start (take most_rows (marked rows last)) s

abbrev pub bounds_over : List ℕ → List ℕ → List ℕ
bounds_over bounds s = spread bound_words bound_width bounds_start (take most_rows bounds) s

unfoldable pub record_over : State → List ℕ → List ℕ
record_over p s =
    let table = table_over p.table s in
    let numbers = stored table clock_start (number_words p) in
    let a = queue_over queuea_start class_places p.a numbers in
    let b = queue_over queueb_start class_places p.b a in
    let best = queue_over best_start best_places p.best b in
    let lasts = lasts_over p.table.rows p.last best in
    let bounds = bounds_over p.bounds lasts in
    stored bounds wire_start (wire_words p.wire)

-- ---- the port that words name: of a word that is larger than its field, what the field can hold
abbrev pub signed_of : ℕ → ℤ
signed_of w = cond (leb w 9223372036854775807) (pos w) (negsuc (18446744073709551615 - w))

abbrev pub frame_at : List ℕ → ℕ → Frame
frame_at s k = record { source = u32_of (word_at s k); size = u32_of (word_at s (k + 1)); taken = word_at s (k + 2) }

abbrev pub instant_at : List ℕ → ℕ → Instant
instant_at s k = cond (eqb (word_at s k) 1) (at (word_at s (k + 1))) never

unfoldable pub wire_at : List ℕ → ℕ → Wire
wire_at s k = cond (eqb (word_at s k) 1) (Sending (frame_at s (k + 1)) (u32_of (word_at s (k + 1 + frame_width)))) Free

abbrev pub queue_at : List ℕ → ℕ → List Frame
queue_at s k = gathered (frame_at s) frame_width (k + 1) (word_at s k)

abbrev pub rows_at : List ℕ → List Row
rows_at s = gathered (row_at s) row_width rows_start (word_at s count_place)

unfoldable pub state_of : List ℕ → State
state_of s =
    record {
      table =
          record {
            header = record { idlea = u32_of (word_at s idlea_place); idleb = u32_of (word_at s idleb_place); payload = u16_of (word_at s payload_place) };
            rows = rows_at s;
          };
      bounds = gathered (word_at s) bound_width bounds_start (word_at s count_place);
      clock = word_at s clock_start;
      credita = signed_of (word_at s (clock_start + 1));
      creditb = signed_of (word_at s (clock_start + 2));
      a = queue_at s queuea_start;
      b = queue_at s queueb_start;
      best = queue_at s best_start;
      last = instants_for (rows_at s) (gathered (instant_at s) last_width last_start (word_at s count_place));
      wire = wire_at s wire_start;
    }

-- ---- whether bytes are a record: there are enough of them, they are of this version, counts are within the places, and each word of a part fits its field. A clock,
-- a credit, an instant and a bound take any word.
unfoldable pub head_fits : List ℕ → Bool
head_fits s = (eqb (word_at s head_start) version && leb (word_at s count_place) most_rows) && ((fits_u32 (word_at s idlea_place) && fits_u32 (word_at s idleb_place)) && fits_u16 (word_at s payload_place))

abbrev pub frame_fits : List ℕ → ℕ → Bool
frame_fits s k = fits_u32 (word_at s k) && fits_u32 (word_at s (k + 1))

abbrev pub last_fits : List ℕ → ℕ → Bool
last_fits s k = fits_mark (word_at s k)

-- The mark of number i, if it is in use.
abbrev pub mark_fits : List ℕ → ℕ → Bool
mark_fits s i = cond (is_there (row_at s (rows_start + row_width * i))) (last_fits s (last_start + last_width * i)) true

unfoldable pub wire_fits : List ℕ → ℕ → Bool
wire_fits s k = cond (eqb (word_at s k) 1) (frame_fits s (k + 1) && fits_u32 (word_at s (k + 1 + frame_width))) (eqb (word_at s k) 0)

-- n things, the first at the word of number k.
unfoldable pub each : (ℕ → Bool) → ℕ → ℕ → ℕ → Bool
each ok size k zero = true
each ok size k (suc n) = ok k && each ok size (k + size) n

unfoldable pub queue_fits : List ℕ → ℕ → ℕ → Bool
queue_fits s k places = leb (word_at s k) places && each (frame_fits s) frame_width (k + 1) (word_at s k)

abbrev pub record_tests : List ℕ → List Bool
record_tests s =
    leb record_size (length s)
    ∷ head_fits s
    ∷ each (row_fits s) row_width rows_start (word_at s count_place)
    ∷ queue_fits s queuea_start class_places
    ∷ queue_fits s queueb_start class_places
    ∷ queue_fits s best_start best_places
    ∷ each (mark_fits s) 1 0 (word_at s count_place)
    ∷ wire_fits s wire_start
    ∷ []

unfoldable pub is_record : List ℕ → Bool
is_record s = all_true (record_tests s)
