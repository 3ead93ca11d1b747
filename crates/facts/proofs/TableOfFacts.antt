-- Document 01's facts (a) to (g), those of rows that name a sample rate, those of deadlines longer than the period (C-12), of the gap behind a report (C-13), of rows that join and leave (C-15), and of tagged rows (C-16), by computing the definitions.
use Prim.Native.Nat.{ℕ, ◌+◌, ◌-◌, ◌≤◌}
use mathlib.Core.Bool.{false}
use mathlib.Core.List.{[], ◌∷◌}
use mathlib.Core.Path.{◌≡◌, refl, ◌∙◌, ap}
use native.Mathlib.Omega.{arith}
use lib.IntN.{pos, negsuc}
use borrow.Author.Tests.{le-ltb}
use Rattle.table.specs.Wire.{ceil_div, wire_size, tagged_size, size_for, size_of, paced, period_of, share_of}
use Rattle.table.specs.Rows.{is_there, rows_of, in_use, count_right, rows_with, trimmed, rows_without, with_row, without_row}
use Rattle.table.specs.Checks.{accepted, passing}
use Rattle.table.specs.Ranges.{count_ok, header_ok, pace_ok, row_ok, ranged}
use Rattle.table.proofs.Laws.{rated_period, there_used}
use Rattle.planner.specs.Sums.{sum_over, max_over, members, largest, total, shares, best_size}
use Rattle.planner.specs.Bound.{blocking, residence_in, residence, bound, most_of, most_in, bounds_of, bounds}
use Rattle.planner.specs.Opening.{used_ok, slopes_ok, shares_ok, timely, room_ok, opening, ranged_around, standing}
use Rattle.machine.specs.declared.Frame.{Frame}
use Rattle.machine.specs.declared.Wire.TheVariants.{Free, Sending}
use Rattle.machine.specs.State.{Instant, never, at, State, instants_for, fresh}
use Rattle.machine.specs.Time.{owner, start, reported_in, byte_time, ends_in, progress}
use Rattle.machine.specs.Record.{table_sound, count_sound, bounds_sound, clock_sound, credit_sound, best_sound, names_sound, queues_sound, sizes_sound, left_sound, frames_taken, rows_taken, taken_of, held_sound, apart_sound, latest_sound, age_sound, sound}
use Rattle.machine.specs.Calls.{offer, advance, leave, too_soon, after, answer, offer_check, best_check, advance_check, is_open, join_check, quiet, leave_check, take_row, take_best, join_row, leave_row}
use Rattle.machine.specs.Run.{clock_of, table_of, last_taken}
use Rattle.machine.proofs.EveryList.{every_list_ran}
use Rattle.tablefile.specs.Layout.{value_at, bytes_of, default_payload, default_period, default_deadline, bit_of, allows, tagged_of}
use Rattle.tablefile.specs.Reading.{opens, header, paced_from, row_from, row, rows_checks, rows_from, rows_end, read_as, edition_of, read_file}
use Rattle.tablefile.specs.Writing.{map_byte, row_bytes, rows_bytes, header_bytes, file_of, writable, write_check}
use Rattle.facts.specs.Specimen.{specimen, sampled, sampled_table, often}
use Rattle.facts.specs.Facts.{played, port, in_g, almost_quiet, anew, soon, twice, NeverEarly, four, almost, Facts}

-- the port of (g) before the second offer: worked out once, for three facts
abbrev state_g : State
state_g = record { table = specimen; bounds = 3730 ∷ 3130 ∷ 4844 ∷ []; clock = 15624; credita = pos 0; creditb = pos 0; a = []; b = []; best = []; last = at 0 ∷ never ∷ never ∷ []; wire = Free }

-- that of C-15, one byte-time before credit A is 0 again
abbrev state_q : State
state_q = record { table = specimen; bounds = 3730 ∷ 3130 ∷ 4844 ∷ []; clock = 399; credita = negsuc 249999; creditb = pos 0; a = []; b = []; best = []; last = at 0 ∷ never ∷ never ∷ []; wire = Free }

-- those of the sampled specimen: at a clock, row 0's last frame taken at an instant
abbrev state_at : ℕ → ℕ → State
state_at now taken = record { table = sampled; bounds = 3730 ∷ 3130 ∷ 4844 ∷ []; clock = now; credita = pos 0; creditb = pos 0; a = []; b = []; best = []; last = at taken ∷ never ∷ never ∷ []; wire = Free }

-- those of C-12: with four frames of the row in the port; at 480, the first has left and the second is on the wire
abbrev often_frame : ℕ → Frame
often_frame instant = record { source = 0; size = 84; taken = instant }

abbrev state_four : State
state_four =
    record {
      table = often;
      bounds = 462 ∷ [];
      clock = 361;
      credita = pos 270000000;
      creditb = pos 0;
      a = often_frame 1 ∷ often_frame 121 ∷ often_frame 241 ∷ often_frame 361 ∷ [];
      b = [];
      best = [];
      last = at 361 ∷ [];
      wire = Sending (record { source = 32; size = 362; taken = 0 }) 1;
    }

abbrev state_fifth : State
state_fifth =
    record {
      table = often;
      bounds = 462 ∷ [];
      clock = 480;
      credita = pos 241250000;
      creditb = pos 0;
      a = often_frame 241 ∷ often_frame 361 ∷ [];
      b = [];
      best = [];
      last = at 361 ∷ [];
      wire = Sending (often_frame 121) 50;
    }

-- demand 3's claim about offers that come in time
not_soon : (l : Instant) (now instant gap : ℕ) → l ≡ at instant → now ≡ instant + gap → 17006 ≤ gap → too_soon l now 17006 ≡ false
not_soon l now instant gap e f h = rw e (le-ltb (now - instant) 17006 (omega arith))

accepts : opening sampled ≡ accepted
unfolding ceil_div wire_size tagged_size size_for size_of paced period_of share_of is_there rows_of in_use passing count_ok header_ok pace_ok row_ok ranged sum_over max_over members largest total shares best_size blocking residence_in residence bound most_of most_in used_ok slopes_ok shares_ok timely room_ok opening
accepts = refl

never_early : NeverEarly
unfolding rows_of is_there period_of paced
never_early cs payload instant gap a before h own few last long now =
    let d = (every_list_ran sampled_table accepts cs).demand3 in
    let t = table_of sampled before in
    d.space 0 payload a before h (there_used t 0 (rw own refl)) (rw own few) (rw own (not_soon (last_taken 0 before) (clock_of before) instant gap last now long))

pub facts : Facts
unfolding ceil_div wire_size tagged_size size_for size_of paced period_of share_of is_there rows_of in_use passing count_ok header_ok pace_ok row_ok ranged sum_over max_over members largest total shares best_size blocking residence_in residence bound most_of most_in bounds_of bounds used_ok slopes_ok shares_ok timely room_ok opening ranged_around standing count_right rows_with trimmed rows_without with_row without_row instants_for fresh owner start reported_in byte_time ends_in progress table_sound count_sound bounds_sound clock_sound credit_sound best_sound names_sound queues_sound sizes_sound left_sound frames_taken rows_taken taken_of held_sound apart_sound latest_sound age_sound sound offer_check best_check advance_check is_open join_check quiet leave_check take_row take_best join_row leave_row value_at bytes_of default_payload default_period default_deadline bit_of allows tagged_of opens header paced_from row_from row rows_checks rows_from rows_end read_as edition_of read_file map_byte row_bytes rows_bytes header_bytes file_of writable write_check
facts =
    let g : port in_g ≡ state_g = refl in
    let o : played (fresh sampled) soon ≡ state_at 17005 0 = refl in
    let w : played (state_at 17006 0) twice ≡ state_at 34013 17006 = refl in
    let h : played (fresh often) four ≡ state_four = refl in
    let f : played state_four almost ≡ state_fifth = refl in
    let q : port almost_quiet ≡ state_q = refl in
    record {
      table = refl;
      reads = refl;
      writes = refl;
      a = refl;
      a_blocking = refl;
      b_blocking = refl;
      a_sizes = refl;
      a_accepts = refl;
      b = refl;
      c_42 = refl;
      c_43 = refl;
      c_1500 = refl;
      d_first = refl;
      d_again = refl;
      d_credit = refl;
      e_first = refl;
      e_credit = refl;
      e_second = refl;
      g_clock = ap (λ s. s.clock) g;
      g_early = ap (λ s. answer s (offer 0 58)) g;
      g_taken = ap (λ s. answer (after s (advance 1)) (offer 0 58)) g;
      f_3130 = refl;
      f_3129 = refl;
      rate_44100 = refl;
      rate_48000 = refl;
      rate_shortest = refl;
      rate_longest = refl;
      rate_range = rated_period;
      rate_reads = refl;
      rate_writes = refl;
      rate_periods = refl;
      rate_bounds = refl;
      rate_accepts = refl;
      turn_first = ap (λ s. answer (after s (advance 1)) (offer 0 58)) o;
      turn_second = ap (λ s. answer (played (after s (advance 1)) twice) (offer 0 58)) o ∙ ap (λ s. answer s (offer 0 58)) w;
      turn_early = ap (λ s. answer s (offer 0 58)) o;
      turn_always = never_early;
      long_table = refl;
      long_reads = refl;
      long_writes = refl;
      long_bounds = refl;
      long_residence = refl;
      long_accepts = refl;
      long_most = refl;
      four_held = ap (λ s. taken_of 0 s) h;
      four_first = ap (λ s. answer s (advance 120)) h;
      fifth_clock = ap (λ s. (played s almost).clock) h ∙ ap (λ s. s.clock) f;
      fifth_held = ap (λ s. taken_of 0 (played s almost)) h ∙ ap (λ s. taken_of 0 s) f;
      fifth_early = ap (λ s. answer (played s almost) (offer 0 42)) h ∙ ap (λ s. answer s (offer 0 42)) f;
      fifth_taken = ap (λ s. answer (after (played s almost) (advance 1)) (offer 0 42)) h ∙ ap (λ s. answer (after s (advance 1)) (offer 0 42)) f;
      fifth_four = ap (λ s. taken_of 0 (after (after (played s almost) (advance 1)) (offer 0 42))) h ∙ ap (λ s. taken_of 0 (after (after s (advance 1)) (offer 0 42))) f;
      room_bounds = refl;
      room_64 = refl;
      room_accepts = refl;
      room_65 = refl;
      room_refuses = refl;
      room_late = refl;
      gap_residences = refl;
      gap_credit = refl;
      gap_eleven = refl;
      gap_held = refl;
      gap_last = refl;
      gap_free = refl;
      gap_through = refl;
      count_bound = refl;
      count_residence = refl;
      count_accepts = refl;
      count_most = refl;
      age_below = refl;
      age_reached = refl;
      kept_bounds = refl;
      fourth_taken = refl;
      fourth_bounds = refl;
      join_taken = refl;
      join_bounds = refl;
      join_empty = refl;
      join_offer = refl;
      join_left = refl;
      join_used = refl;
      join_above = refl;
      join_none = refl;
      join_late = refl;
      join_first = refl;
      raised_before = refl;
      raised_after = refl;
      raised_report = refl;
      raised_clock = refl;
      leave_wire = refl;
      leave_credit = ap (λ s. answer s (leave 0)) q;
      leave_taken = ap (λ s. answer (after s (advance 1)) (leave 0)) q;
      leave_last = refl;
      leave_none = refl;
      again_early = ap (λ s. answer (after s (advance 1)) (offer 0 58)) q;
      again_taken = ap (λ s. answer (played (after s (advance 1)) anew) (offer 0 58)) q;
      tag_sizes = refl;
      tag_table = refl;
      tag_reads = refl;
      tag_writes = refl;
      tag_bounds = refl;
      tag_shares = refl;
      tag_accepts = refl;
      tag_report = refl;
      tag_first = refl;
      tag_letters = refl;
      tag_bits = refl;
      tag_default = refl;
      tag_refuses = refl;
      tag_lowest = refl;
      tag_short = refl;
    }
