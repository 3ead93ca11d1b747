-- One table of facts: what the definitions themselves give for the specimen, for the same with two rows that name a sample rate, for C-12's tables, for C-13, for rows that join and leave (C-15), and for tagged rows (C-16). The
-- figures are C-13's.
use Rattle.std.specs.Prelude.{ℕ, ◌+◌, ◌≤◌, List, [], ◌∷◌, ◌++◌, map, true, false, ◌≡◌, pos, negsuc, set, replicate, Some, None}
use Rattle.table.specs.declared.Class.TheVariants.{A, B}
use Rattle.table.specs.declared.Pace.TheVariants.{Rated}
use Rattle.table.specs.Wire.{wire_size, size_for, size_of, paced, period_of, share_of}
use Rattle.table.specs.Rows.{no_row, contents, row_at}
use Rattle.table.specs.Checks.{accepted, refused}
use Rattle.table.specs.Ranges.{pace_ok}
use Rattle.planner.specs.Bound.{blocking, residence, bound, most_of, most_in, bounds}
use Rattle.planner.specs.Opening.{opening}
use Rattle.machine.specs.declared.Wire.TheVariants.{Free, Sending}
use Rattle.machine.specs.State.{never, at, State, fresh}
use Rattle.machine.specs.Record.{taken_of, sound}
use Rattle.machine.specs.Calls.{Call, offer, offer_best, advance, join, leave, Answer, taken, passed, denied, after, answer}
use Rattle.machine.specs.Run.{Event, event, clock_of, table_of, answered, Happened, last_taken}
use Rattle.tablefile.specs.declared.Edition.TheVariants.{Avb1, Avb2}
use Rattle.tablefile.specs.Reading.{read_file}
use Rattle.tablefile.specs.Writing.{file_of, write_check}
use Rattle.facts.specs.Specimen.{row_a, row_b, row_long, specimen, specimen_with, specimen_table, specimen_bytes, sampled, sampled_table, sampled_bytes, often_row, often_with, often, often_table, often_bytes, seldom, crowded, small, tagged_row, tagged, tagged_table, tagged_bytes, tagged_later}

-- The port after calls, the first one first.
abbrev pub played : State → List Call → State
played s [] = s
played s (c ∷ cs) = played (after s c) cs

abbrev pub port : List Call → State
port cs = played (fresh specimen) cs

-- (d): best effort 1500 offered, advance 1, row 0 offered with 58; advance 5000 passes 1529, again passes 100, credit A 0 when 12 more have passed.
abbrev pub in_d : List Call
in_d = offer_best 1500 ∷ advance 1 ∷ offer 0 58 ∷ []

-- (e): row 0 with 58, advance 5000 passes 88; 12 byte-times later credit A −75,000,000, row 1 with 258, advance 1000 passes 588.
abbrev pub report_e : List Call
report_e = offer 0 58 ∷ advance 5000 ∷ []

abbrev pub in_e : List Call
in_e = report_e ++ advance 12 ∷ offer 1 258 ∷ []

-- (g): row 0 offered 15,624 after its last is 13, at 15,625 taken.
abbrev pub in_g : List Call
in_g = offer 0 58 ∷ advance 88 ∷ advance 15536 ∷ []

-- A frame of row 0 of the sampled specimen, and then 17,005 byte-times, 17,006, and 17,007.
abbrev pub soon : List Call
soon = offer 0 58 ∷ advance 88 ∷ advance 16917 ∷ []

abbrev pub once : List Call
once = offer 0 58 ∷ advance 88 ∷ advance 16917 ∷ advance 1 ∷ []

abbrev pub twice : List Call
twice = offer 0 58 ∷ advance 88 ∷ advance 16919 ∷ []

-- In every list of calls on the sampled specimen's port, an offer to row 0, while it is the table's own and of at most its payload, that comes 17,006 byte-times or more after its last frame was
-- taken is taken: a stream that is offered every 17,006 and 17,007 byte-times in turn is never early.
abbrev pub NeverEarly : Type 0
NeverEarly = (cs : List Call) (payload instant gap : ℕ) (a : Answer) (before : List Event) → Happened (event (offer 0 payload) a) before (answered sampled cs) → row_at (table_of sampled before) 0 ≡ row_at sampled 0 → payload ≤ 58 → last_taken 0 before ≡ at instant → 17006 ≤ gap → clock_of before ≡ instant + gap → a ≡ taken

-- C-12: best effort 320 holds the wire for 362 byte-times, and row 0 is offered at 1, 121, 241 and 361: each offer a period after the last, and no frame of the row has started.
-- The third advance by 120 stops at 350, where best effort is reported.
abbrev pub four : List Call
four = offer_best 320 ∷ advance 1 ∷ offer 0 42 ∷ advance 120 ∷ offer 0 42 ∷ advance 120 ∷ offer 0 42 ∷ advance 120 ∷ advance 11 ∷ offer 0 42 ∷ []

-- Then best effort leaves the wire at 362, and the first frame of the row is reported at 434 and leaves it at 446; the clock goes on to 480, where a fifth is early by one byte-time.
abbrev pub almost : List Call
almost = advance 120 ∷ advance 46 ∷ []

abbrev pub fifth : State
fifth = played (played (fresh often) four) almost

-- C-13: a port record at a clock, with the last byte of a frame of row 0 on the wire that was taken at 0.
abbrev pub last_byte_at : ℕ → State
last_byte_at now =
    record {
      table = specimen;
      bounds = 3730 ∷ 3130 ∷ 4844 ∷ [];
      clock = now;
      credita = pos 0;
      creditb = pos 0;
      a = [];
      b = [];
      best = [];
      last = at 0 ∷ never ∷ never ∷ [];
      wire = Sending (record { source = 0; size = 100; taken = 0 }) 1;
    }

-- C-15: a row joins the specimen at number 5: numbers 3 and 4 are empty.
abbrev pub far : List Call
far = join 5 row_long ∷ []

-- A frame of row 0, and then 400 byte-times: credit A is 0 again. One less, and it is not.
abbrev pub almost_quiet : List Call
almost_quiet = report_e ++ advance 12 ∷ advance 299 ∷ []

-- While row 1's frame waits for row 0's and then for credit, a row of B with the largest frames joins, and its first one goes out.
abbrev pub overtaken : List Call
overtaken = offer 0 0 ∷ offer 1 0 ∷ advance 72 ∷ advance 12 ∷ join 3 (seldom B 1500) ∷ offer 3 1500 ∷ advance 1530 ∷ []

-- Row 0 leaves, and a row joins at its number.
abbrev pub anew : List Call
anew = leave 0 ∷ join 0 row_a ∷ []

pub record Facts : Type 0 where
  -- the table record says what the specimen says
  pub table : contents specimen_table ≡ specimen
  -- the 28 bytes are read as that record, and what the specimen says is written as the 28 bytes
  pub reads : read_file specimen_bytes ≡ record { outcome = accepted; edition = Avb1; table = specimen_table }
  pub writes : file_of Avb1 specimen ≡ specimen_bytes
  -- (a) the three bounds; HA and HB; the sheet's wire sizes
  pub a : bounds specimen ≡ 3730 ∷ 3130 ∷ 4844 ∷ replicate 29 0
  pub a_blocking : blocking A specimen ≡ 1542
  pub b_blocking : blocking B specimen ≡ 2356
  pub a_sizes : map size_of specimen.rows ≡ 100 ∷ 300 ∷ 500 ∷ []
  pub a_accepts : opening specimen ≡ accepted
  -- (b) shares
  pub b : map share_of specimen.rows ≡ 6400 ∷ 19200 ∷ 16000 ∷ []
  -- (c) payload 42 gives 84, 43 gives 85, 1500 gives 1542
  pub c_42 : wire_size 42 ≡ 84
  pub c_43 : wire_size 43 ≡ 85
  pub c_1500 : wire_size 1500 ≡ 1542
  pub d_first : answer (port in_d) (advance 5000) ≡ passed 1529 (Some (record { source = 32; size = 1542; taken = 0 }))
  pub d_again : answer (after (port in_d) (advance 5000)) (advance 5000) ≡ passed 100 (Some (record { source = 0; size = 100; taken = 1 }))
  pub d_credit : (port (in_d ++ advance 5000 ∷ advance 5000 ∷ advance 12 ∷ [])).credita ≡ pos 0
  pub e_first : answer (port (offer 0 58 ∷ [])) (advance 5000) ≡ passed 88 (Some (record { source = 0; size = 100; taken = 0 }))
  pub e_credit : (port (report_e ++ advance 12 ∷ [])).credita ≡ negsuc 74999999
  pub e_second : answer (port in_e) (advance 1000) ≡ passed 588 (Some (record { source = 1; size = 300; taken = 100 }))
  pub g_clock : (port in_g).clock ≡ 15624
  pub g_early : answer (port in_g) (offer 0 58) ≡ denied 13 0
  pub g_taken : answer (after (port in_g) (advance 1)) (offer 0 58) ≡ taken
  -- (f) deadline 3130 for row 1 accepted, 3129 refused with 10
  pub f_3130 : opening (specimen_with 3130) ≡ accepted
  pub f_3129 : opening (specimen_with 3129) ≡ refused 10 1
  -- rows that name a sample rate: periods; a file with such rows, read and written; the table is accepted, and its bounds are the specimen's, since sizes and slopes are
  pub rate_44100 : paced (Rated 6 44100) ≡ 17006
  pub rate_48000 : paced (Rated 6 48000) ≡ 15625
  pub rate_shortest : paced (Rated 1 200000) ≡ 625
  pub rate_longest : paced (Rated 255 1000) ≡ 31875000
  pub rate_range : (samples rate : ℕ) → pace_ok (Rated samples rate) ≡ true → (625 ≤ paced (Rated samples rate)) × (paced (Rated samples rate) ≤ 31875000)
  pub rate_reads : read_file sampled_bytes ≡ record { outcome = accepted; edition = Avb1; table = sampled_table }
  pub rate_writes : file_of Avb1 sampled ≡ sampled_bytes
  pub rate_periods : map period_of sampled.rows ≡ 17006 ∷ 15625 ∷ 31250 ∷ []
  pub rate_bounds : bounds sampled ≡ bounds specimen
  pub rate_accepts : opening sampled ≡ accepted
  -- offered after 17,006 byte-times and again after 17,007 the stream is taken, after 17,005 it is early; and it is never early in turn
  pub turn_first : answer (played (fresh sampled) once) (offer 0 58) ≡ taken
  pub turn_second : answer (played (played (fresh sampled) once) twice) (offer 0 58) ≡ taken
  pub turn_early : answer (played (fresh sampled) soon) (offer 0 58) ≡ denied 13 0
  pub turn_always : NeverEarly
  -- C-12: a deadline of four periods, read and written; the table is accepted, its bound is above three periods and its row may have four frames in the port
  pub long_table : contents often_table ≡ often
  pub long_reads : read_file often_bytes ≡ record { outcome = accepted; edition = Avb1; table = often_table }
  pub long_writes : file_of Avb1 often ≡ often_bytes
  pub long_bounds : bounds often ≡ 462 ∷ replicate 31 0
  pub long_residence : residence often often_row ≡ 474
  pub long_accepts : opening often ≡ accepted
  pub long_most : most_of often often_row ≡ 4
  -- all four offers are taken, and their frames are in the port at once; the first is reported 433 byte-times after it was taken
  pub four_held : taken_of 0 (played (fresh often) four) ≡ 1 ∷ 121 ∷ 241 ∷ 361 ∷ []
  pub four_first : answer (played (fresh often) four) (advance 120) ≡ passed 73 (Some (record { source = 0; size = 84; taken = 1 }))
  -- 119 byte-times after the fourth a fifth is early, though no more than three frames of the row are in the port; after 120 it is taken, and they are four again
  pub fifth_clock : fifth.clock ≡ 480
  pub fifth_held : taken_of 0 fifth ≡ 121 ∷ 241 ∷ 361 ∷ []
  pub fifth_early : answer fifth (offer 0 42) ≡ denied 13 0
  pub fifth_taken : answer (after fifth (advance 1)) (offer 0 42) ≡ taken
  pub fifth_four : taken_of 0 (after (after fifth (advance 1)) (offer 0 42)) ≡ 121 ∷ 241 ∷ 361 ∷ 481 ∷ []
  -- counts that sum to 64 in a class are accepted; a byte more of best effort makes them 65, refused with 20, place 0 for A, 1 for B; a bound above its deadline comes first
  pub room_bounds : bounds (crowded B 1380 7309) ≡ 7309 ∷ 6890 ∷ 6890 ∷ 6890 ∷ replicate 28 0
  pub room_64 : map (λ c. most_in c (crowded c 1379 7309)) (A ∷ B ∷ []) ≡ 64 ∷ 64 ∷ []
  pub room_accepts : map (λ c. opening (crowded c 1379 7309)) (A ∷ B ∷ []) ≡ accepted ∷ accepted ∷ []
  pub room_65 : map (λ c. most_in c (crowded c 1380 7309)) (A ∷ B ∷ []) ≡ 65 ∷ 65 ∷ []
  pub room_refuses : map (λ c. opening (crowded c 1380 7309)) (A ∷ B ∷ []) ≡ refused 20 0 ∷ refused 20 1 ∷ []
  pub room_late : map (λ c. opening (crowded c 1380 7308)) (A ∷ B ∷ []) ≡ refused 10 0 ∷ refused 10 0 ∷ []
  -- C-13: the bounds of (a) are 12 less than the residences
  pub gap_residences : map (residence specimen) specimen.rows ≡ 3742 ∷ 3142 ∷ 4856 ∷ []
  -- credit goes on falling in the gap: −66,000,000 at (e)'s first report, −75,000,000 when 12 more have passed
  pub gap_credit : (port report_e).credita ≡ negsuc 65999999
  -- a frame is reported once: behind (e)'s first report its last 12 bytes hold the wire, and nothing is reported when they have passed
  pub gap_eleven : answer (port report_e) (advance 11) ≡ passed 11 None
  pub gap_held : (port (report_e ++ advance 11 ∷ [])).wire ≡ Sending (record { source = 0; size = 100; taken = 0 }) 1
  pub gap_last : answer (port (report_e ++ advance 11 ∷ [])) (advance 1) ≡ passed 1 None
  pub gap_free : (port (report_e ++ advance 11 ∷ advance 1 ∷ [])).wire ≡ Free
  -- one advance runs past the end of a reported frame and on to the next report: 12 byte-times of the gap, 300 of a free wire while the credit is below 0, 288 of row 1's frame; (d)'s second, 12 and 88
  pub gap_through : answer (port (report_e ++ offer 1 258 ∷ [])) (advance 1000) ≡ passed 600 (Some (record { source = 1; size = 300; taken = 88 }))
  -- the count goes by the residence: with 18 bytes more of best effort the bound of C-12's row is four periods, its deadline, and the row may have five frames in the port
  pub count_bound : bound (often_with 338) often_row ≡ 480
  pub count_residence : residence (often_with 338) often_row ≡ 492
  pub count_accepts : opening (often_with 338) ≡ accepted
  pub count_most : most_of (often_with 338) often_row ≡ 5
  -- the age in a broken record goes by the residence
  pub age_below : sound (last_byte_at 3741) ≡ true
  pub age_reached : sound (last_byte_at 3742) ≡ false
  -- C-15: the port keeps its bounds; with row 3 those of both classes are larger
  pub kept_bounds : (port []).bounds ≡ 3730 ∷ 3130 ∷ 4844 ∷ []
  pub fourth_taken : answer (port []) (join 3 row_long) ≡ taken
  pub fourth_bounds : (port (join 3 row_long ∷ [])).bounds ≡ 6330 ∷ 5730 ∷ 5044 ∷ 5130 ∷ []
  -- a row that joins at number 5 leaves 3 and 4 empty, with bound 0, and an offer to one is 11
  pub join_taken : answer (port []) (join 5 row_long) ≡ taken
  pub join_bounds : (port far).bounds ≡ 6330 ∷ 5730 ∷ 5044 ∷ 0 ∷ 0 ∷ 5130 ∷ []
  pub join_empty : answer (port far) (offer 3 58) ≡ denied 11 0
  pub join_offer : answer (port far) (offer 5 458) ≡ taken
  -- the bounds are those of the sheet when it leaves again; and the row count is 3
  pub join_left : port (far ++ leave 5 ∷ []) ≡ port []
  -- a number in use, one above 31, an empty row, a bound above its deadline, a first row of a class
  pub join_used : answer (port []) (join 2 row_long) ≡ denied 22 0
  pub join_above : answer (port []) (join 32 row_long) ≡ denied 22 0
  pub join_none : answer (port []) (join 4 no_row) ≡ denied 5 4
  pub join_late : answer (fresh (specimen_with 3130)) (join 3 row_long) ≡ denied 10 1
  pub join_first : answer (fresh often) (join 1 row_b) ≡ denied 8 0
  -- a frame may be older than the bound that its row had when it was taken: the bound of row 1 was 492 and is 1950 when a row of B has joined, and its frame is reported after 1698
  pub raised_before : (fresh small).bounds ≡ 492 ∷ 492 ∷ 492 ∷ []
  pub raised_after : (played (fresh small) overtaken).bounds ≡ 1950 ∷ 1950 ∷ 9922 ∷ 6520 ∷ []
  pub raised_report : answer (played (fresh small) overtaken) (advance 5000) ≡ passed 84 (Some (record { source = 1; size = 84; taken = 0 }))
  pub raised_clock : (after (played (fresh small) overtaken) (advance 5000)).clock ≡ 1698
  -- a leave asks for an empty port with both credits 0; the last row of a class stays
  pub leave_wire : answer (port report_e) (leave 0) ≡ denied 21 0
  pub leave_credit : answer (port almost_quiet) (leave 0) ≡ denied 21 0
  pub leave_taken : answer (after (port almost_quiet) (advance 1)) (leave 0) ≡ taken
  pub leave_last : answer (port []) (leave 2) ≡ denied 8 0
  pub leave_none : answer (port far) (leave 3) ≡ denied 11 0
  -- 400 byte-times after its last frame row 0 is early; a row that has joined at its number has no last frame
  pub again_early : answer (after (port almost_quiet) (advance 1)) (offer 0 58) ≡ denied 13 0
  pub again_taken : answer (played (after (port almost_quiet) (advance 1)) anew) (offer 0 58) ≡ taken
  -- C-16: the wire sizes of a tagged row's frames
  pub tag_sizes : map (size_for tagged_row) (36 ∷ 37 ∷ 58 ∷ 1500 ∷ []) ≡ 84 ∷ 85 ∷ 106 ∷ 1548 ∷ []
  -- an AVB2 file of two tagged rows, read and written; its bounds, and that it is accepted
  pub tag_table : contents tagged_table ≡ tagged
  pub tag_reads : read_file tagged_bytes ≡ record { outcome = accepted; edition = Avb2; table = tagged_table }
  pub tag_writes : file_of Avb2 tagged ≡ tagged_bytes
  pub tag_bounds : bounds tagged ≡ 1954 ∷ 2570 ∷ replicate 30 0
  pub tag_shares : map share_of tagged.rows ≡ 6784 ∷ 2688 ∷ []
  pub tag_accepts : opening tagged ≡ accepted
  -- a frame that is offered to it has its wire size
  pub tag_report : answer (played (fresh tagged) (offer 0 58 ∷ [])) (advance 5000) ≡ passed 94 (Some (record { source = 0; size = 106; taken = 0 }))
  -- behind the letters of AVB1 the same bytes are refused with 4, since bit 4 stands, and behind other letters with 2; bits 5 and 6 are 4 in AVB2 too
  pub tag_first : (read_file (set tagged_bytes 3 0x31)).outcome ≡ refused 4 15
  pub tag_letters : map (λ l. (read_file (set tagged_bytes 3 l)).outcome) (0x30 ∷ 0x33 ∷ []) ≡ refused 2 0 ∷ refused 2 0 ∷ []
  pub tag_bits : map (λ m. (read_file (set tagged_bytes 15 m)).outcome) (0x35 ∷ 0x55 ∷ []) ≡ refused 4 15 ∷ refused 4 15 ∷ []
  -- where row 0 states a payload of 36 it states its default; 42 is a value
  pub tag_default : map (λ p. (read_file (set tagged_bytes 17 p)).outcome) (36 ∷ 42 ∷ []) ≡ refused 6 16 ∷ accepted ∷ []
  -- 23 comes before 17, its place is the lowest tagged row, and AVB2 has none
  pub tag_refuses : write_check Avb1 tagged [] ≡ refused 23 0
  pub tag_lowest : write_check Avb1 tagged_later [] ≡ refused 23 1
  pub tag_short : write_check Avb2 tagged [] ≡ refused 17 0
