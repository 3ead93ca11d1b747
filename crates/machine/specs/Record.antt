-- When a record is broken: the clauses of document 01, as C-12, C-13 and C-15 have them, each with a name, stated as what a sound record has.
use Rattle.std.specs.Prelude.{ℕ, zero, suc, ◌+◌, ◌-◌, ◌*◌, max, Bool, true, false, cond, ◌&&◌, ◌||◌, List, [], ◌∷◌, ◌++◌, ℤ, pos, negsuc, leb, ltb, eqb, length, get_or}
use Rattle.table.specs.declared.Class.{Class}
use Rattle.table.specs.declared.Class.TheVariants.{A, B}
use Rattle.table.specs.Limits.{least_size}
use Rattle.table.specs.Wire.{size_of, period_of}
use Rattle.table.specs.Rows.{Contents, row_at, in_use, count_right}
use Rattle.table.specs.Checks.{Outcome, accepted, refused}
use Rattle.planner.specs.Sums.{in_class, largest, idle, send, best_size}
use Rattle.planner.specs.Bound.{blocking, residence, most_of, bounds_of}
use Rattle.planner.specs.Opening.{standing}
use Rattle.machine.specs.declared.Frame.{Frame}
use Rattle.machine.specs.declared.Wire.{Wire}
use Rattle.machine.specs.declared.Wire.TheVariants.{Free, Sending}
use Rattle.machine.specs.Limits.{last_clock, best_mark, best_places}
use Rattle.machine.specs.State.{Instant, never, at, State, credit}
use Rattle.machine.specs.Time.{Owner, shaped, unshaped, owner}

abbrev pub is_accepted : Outcome → Bool
is_accepted accepted = true
is_accepted (refused n p) = false

abbrev pub all_of : (Frame → Bool) → List Frame → Bool
all_of ok [] = true
all_of ok (f ∷ fs) = ok f && all_of ok fs

-- Of the frame on the wire, if there is one.
abbrev pub on_sending : (Frame → ℕ → Bool) → Wire → Bool
on_sending ok Free = true
on_sending ok (Sending f left) = ok f left

-- Its table is accepted, with empty numbers passed over.
unfoldable pub table_sound : State → Bool
table_sound s = is_accepted (standing s.table)

-- Its row count is one above the highest number in use.
unfoldable pub count_sound : State → Bool
count_sound s = count_right s.table

-- Its bounds are those of its table.
abbrev pub same_numbers : List ℕ → List ℕ → Bool
same_numbers [] [] = true
same_numbers [] (y ∷ ys) = false
same_numbers (x ∷ xs) [] = false
same_numbers (x ∷ xs) (y ∷ ys) = eqb x y && same_numbers xs ys

unfoldable pub bounds_sound : State → Bool
bounds_sound s = same_numbers s.bounds (bounds_of s.table)

-- Its clock is in range.
unfoldable pub clock_sound : State → Bool
clock_sound s = leb s.clock last_clock

-- A credit is in range, −S × L to I × H.
abbrev pub between : ℕ → ℕ → ℤ → Bool
between low high (pos n) = leb n high
between low high (negsuc n) = leb (suc n) low

unfoldable pub credit_sound : Class → State → Bool
credit_sound c s = between (send c s.table * largest c s.table) (idle c s.table * blocking c s.table) (credit c s)

-- No more than 16 best-effort frames wait.
unfoldable pub best_sound : State → Bool
best_sound s = leb (length s.best) best_places

-- A frame names a row of the table. The frame on the wire names a row or bears the best-effort mark.
abbrev pub names_row : Contents → Frame → Bool
names_row t f = in_use t f.source

abbrev pub is_best : Frame → Bool
is_best f = eqb f.source best_mark

unfoldable pub names_sound : State → Bool
names_sound s = (all_of (names_row s.table) s.a && all_of (names_row s.table) s.b) && on_sending (λ f left. names_row s.table f || is_best f) s.wire

-- A frame is in the right queue: a row's in its class's, one with the mark in best effort's.
abbrev pub row_in : Class → Contents → Frame → Bool
row_in c t f = in_class c (row_at t f.source)

unfoldable pub queues_sound : State → Bool
queues_sound s = (all_of (row_in A s.table) s.a && all_of (row_in B s.table) s.b) && all_of is_best s.best

-- A frame has a size from 84 to its row's C (best effort: LC).
abbrev pub size_within : ℕ → Frame → Bool
size_within most f = leb least_size f.size && leb f.size most

abbrev pub row_size : Contents → Frame → Bool
row_size t f = size_within (size_of (row_at t f.source)) f

abbrev pub size_by : Owner → Contents → Frame → Bool
size_by (shaped c) t f = row_size t f
size_by unshaped t f = size_within (best_size t) f

unfoldable pub sizes_sound : State → Bool
sizes_sound s =
    (all_of (row_size s.table) s.a && all_of (row_size s.table) s.b)
    && (all_of (size_within (best_size s.table)) s.best && on_sending (λ f left. size_by (owner s.table f) s.table f) s.wire)

-- Bytes left are 1 to the size.
unfoldable pub left_sound : State → Bool
left_sound s = on_sending (λ f left. leb 1 left && leb left f.size) s.wire

-- No instant of a frame is after the clock.
abbrev pub taken_by : ℕ → Frame → Bool
taken_by now f = leb f.taken now

unfoldable pub frames_taken : State → Bool
frames_taken s =
    (all_of (taken_by s.clock) s.a && all_of (taken_by s.clock) s.b) && (all_of (taken_by s.clock) s.best && on_sending (λ f left. taken_by s.clock f) s.wire)

-- No instant of a row in use is after the clock.
abbrev pub not_after : ℕ → Instant → Bool
not_after now never = true
not_after now (at k) = leb k now

abbrev pub none_after : ℕ → List Instant → Bool
none_after now [] = true
none_after now (i ∷ is) = not_after now i && none_after now is

unfoldable pub rows_taken : State → Bool
rows_taken s = none_after s.clock s.last

-- When the frames of a row were taken, of those in a list; and of those in the port, on the wire or waiting.
abbrev pub taken_in : ℕ → List Frame → List ℕ
taken_in k [] = []
taken_in k (f ∷ fs) = cond (eqb f.source k) (f.taken ∷ taken_in k fs) (taken_in k fs)

abbrev pub sending : Wire → List Frame
sending Free = []
sending (Sending f left) = f ∷ []

unfoldable pub taken_of : ℕ → State → List ℕ
taken_of k s = taken_in k (sending s.wire ++ (s.a ++ s.b))

-- What holds of each number below n, and of each number in use.
abbrev pub up_to : ℕ → (ℕ → Bool) → Bool
up_to zero ok = true
up_to (suc n) ok = up_to n ok && ok n

abbrev pub each_row : (ℕ → Bool) → State → Bool
each_row ok s = up_to (length s.table.rows) (λ k. cond (in_use s.table k) (ok k) true)

-- A row has no more frames in the port than its residence divided by its period, rounded up.
unfoldable pub held_sound : State → Bool
held_sound s = each_row (λ k. leb (length (taken_of k s)) (most_of s.table (row_at s.table k))) s

-- No two of them were taken less than a period apart, in whichever order they stand.
abbrev pub apart : ℕ → ℕ → ℕ → Bool
apart period x y = leb period ((x - y) + (y - x))

abbrev pub apart_from : ℕ → ℕ → List ℕ → Bool
apart_from period x [] = true
apart_from period x (y ∷ ys) = apart period x y && apart_from period x ys

abbrev pub spaced : ℕ → List ℕ → Bool
spaced period [] = true
spaced period (x ∷ xs) = apart_from period x xs && spaced period xs

unfoldable pub apart_sound : State → Bool
apart_sound s = each_row (λ k. spaced (period_of (row_at s.table k)) (taken_of k s)) s

-- The newest of them was taken at the row's last instant.
abbrev pub is_at : ℕ → Instant → Bool
is_at k never = false
is_at k (at j) = eqb j k

abbrev pub newest_of : List ℕ → ℕ
newest_of [] = 0
newest_of (x ∷ xs) = max x (newest_of xs)

abbrev pub ends_at : List ℕ → Instant → Bool
ends_at [] i = true
ends_at (x ∷ xs) i = is_at (newest_of (x ∷ xs)) i

unfoldable pub latest_sound : State → Bool
latest_sound s = each_row (λ k. ends_at (taken_of k s) (get_or s.last k never)) s

-- What holds of each row's frame in the port, waiting or on the wire.
abbrev pub row_only : Owner → Bool → Bool
row_only (shaped c) ok = ok
row_only unshaped ok = true

abbrev pub each_row_frame : (Frame → Bool) → State → Bool
each_row_frame ok s = (all_of ok s.a && all_of ok s.b) && on_sending (λ f left. row_only (owner s.table f) (ok f)) s.wire

-- A row's frame is younger than its residence.
unfoldable pub age_sound : State → Bool
age_sound s = each_row_frame (λ f. ltb (s.clock - f.taken) (residence s.table (row_at s.table f.source))) s

abbrev pub all_true : List Bool → Bool
all_true [] = true
all_true (b ∷ bs) = b && all_true bs

-- A record is broken if any of these fails.
unfoldable pub sound : State → Bool
sound s =
    all_true
    (table_sound s
    ∷ count_sound s
    ∷ bounds_sound s
    ∷ clock_sound s
    ∷ credit_sound A s
    ∷ credit_sound B s
    ∷ best_sound s
    ∷ names_sound s
    ∷ queues_sound s
    ∷ sizes_sound s
    ∷ left_sound s
    ∷ frames_taken s
    ∷ rows_taken s
    ∷ held_sound s
    ∷ apart_sound s
    ∷ latest_sound s
    ∷ age_sound s
    ∷ [])
