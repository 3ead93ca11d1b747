-- Byte-times on the few numbers that they change. No promise of a port's call cites this file.
use Rattle.std.specs.Prelude.{ℕ, zero, suc, ◌-◌, ◌*◌, ◌≤◌, Bool, true, false, not, cond, ◌&&◌, ◌≡◌, leb, eqb, ℤ, pos, negsuc, ◌+ℤ◌, ◌-ℤ◌}
use Rattle.std.specs.Int.Signed.{mag}
use Rattle.table.specs.Limits.{D, left_at_report}
use Rattle.machine.specs.Limits.{most_steps}
use Rattle.machine.specs.Time.{up_to_zero, rise}
use Rattle.machine.specs.Record.{between}
use Rattle.bytetime.specs.declared.Sender.{Sender}
use Rattle.bytetime.specs.declared.Sender.TheVariants.{Nobody, ClassA, ClassB, BestEffort}
use Rattle.bytetime.specs.declared.Hot.{Hot}
use Rattle.bytetime.specs.declared.Fixed.{Fixed}
use Rattle.bytetime.specs.declared.Ran.{Ran}

-- Steps 2 and 4 of a class, by whether its frame is on the wire, is so still after the byte, and whether a frame waits.
abbrev pub earned_with : Bool → Bool → ℕ → ℕ → ℤ → ℤ
earned_with true waits i s c = c -ℤ pos s
earned_with false true i s c = c +ℤ pos i
earned_with false false i s c = rise c i

abbrev pub settled_with : Bool → Bool → ℤ → ℤ
settled_with true waits c = c
settled_with false true c = c
settled_with false false c = up_to_zero c

abbrev pub credit_after : Bool → Bool → Bool → ℕ → ℕ → ℤ → ℤ
credit_after on still waits i s c = settled_with still waits (earned_with on waits i s c)

abbrev pub is_a : Sender → Bool
is_a Nobody = false
is_a ClassA = true
is_a ClassB = false
is_a BestEffort = false

abbrev pub is_b : Sender → Bool
is_b Nobody = false
is_b ClassA = false
is_b ClassB = true
is_b BestEffort = false

abbrev pub is_best : Sender → Bool
is_best Nobody = false
is_best ClassA = false
is_best ClassB = false
is_best BestEffort = true

abbrev pub is_nobody : Sender → Bool
is_nobody Nobody = true
is_nobody ClassA = false
is_nobody ClassB = false
is_nobody BestEffort = false

-- Step 1: a head goes out.
abbrev pub ready_by : ℤ → Bool → Bool
ready_by (pos n) waits = waits
ready_by (negsuc n) waits = false

abbrev pub goes_a : Hot → Fixed → Hot
goes_a h x = record { credita = h.credita; creditb = h.creditb; left = x.heada; sender = ClassA; moved = true; waitsa = x.morea; waitsb = h.waitsb; waitsbest = h.waitsbest }

abbrev pub goes_b : Hot → Fixed → Hot
goes_b h x = record { credita = h.credita; creditb = h.creditb; left = x.headb; sender = ClassB; moved = true; waitsa = h.waitsa; waitsb = x.moreb; waitsbest = h.waitsbest }

abbrev pub goes_best : Hot → Fixed → Hot
goes_best h x = record { credita = h.credita; creditb = h.creditb; left = x.headbest; sender = BestEffort; moved = true; waitsa = h.waitsa; waitsb = h.waitsb; waitsbest = h.waitsbest }

-- Whose head goes out, by which heads may.
abbrev pub next_by : Bool → Bool → Bool → Sender
next_by a b best = cond a ClassA (cond b ClassB (cond best BestEffort Nobody))

abbrev pub goes : Sender → Hot → Fixed → Hot
goes Nobody h x = h
goes ClassA h x = goes_a h x
goes ClassB h x = goes_b h x
goes BestEffort h x = goes_best h x

unfoldable pub on_free : Hot → Fixed → Hot
on_free h x = goes (next_by (ready_by h.credita h.waitsa) (ready_by h.creditb h.waitsb) h.waitsbest) h x

unfoldable pub started_hot : Hot → Fixed → Hot
started_hot h x = cond (is_nobody h.sender) (on_free h x) h

-- Steps 2, 3 and 4: a byte of the frame on the wire passes, or of a free wire. After a frame's last byte nobody has the wire.
abbrev pub left_after : Bool → ℕ → ℕ
left_after free left = cond free left (left - 1)

abbrev pub hot_with : Hot → ℤ → ℤ → ℕ → Hot
hot_with h ca cb left = record { credita = ca; creditb = cb; left = left; sender = h.sender; moved = h.moved; waitsa = h.waitsa; waitsb = h.waitsb; waitsbest = h.waitsbest }

abbrev pub byte_off : Hot → Fixed → Hot
byte_off h x =
    hot_with h
    (credit_after (is_a h.sender) (is_a h.sender && leb 2 h.left) h.waitsa x.idlea (D - x.idlea) h.credita)
    (credit_after (is_b h.sender) (is_b h.sender && leb 2 h.left) h.waitsb x.idleb (D - x.idleb) h.creditb)
    (left_after (is_nobody h.sender) h.left)

abbrev pub is_over : Hot → Bool
is_over h = not (is_nobody h.sender) && leb h.left 0

abbrev pub freed : Hot → Hot
freed h = record { credita = h.credita; creditb = h.creditb; left = h.left; sender = Nobody; moved = h.moved; waitsa = h.waitsa; waitsb = h.waitsb; waitsbest = h.waitsbest }

unfoldable pub freed_if_over : Hot → Hot
freed_if_over h = cond (is_over h) (freed h) h

unfoldable pub passed_hot : Hot → Fixed → Hot
passed_hot h x = freed_if_over (byte_off h x)

-- A byte-time, and whether a frame was reported ended in it: someone has the wire, and `left_at_report` bytes are left.
unfoldable pub tick_hot : Hot → Fixed → Hot
tick_hot h x = passed_hot (started_hot h x) x

unfoldable pub ended_hot : Hot → Bool
ended_hot h = not (is_nobody h.sender) && eqb h.left left_at_report

-- Byte-times until a frame is reported or n have passed.
abbrev pub further_hot : Bool → Ran → Fixed → Ran
further_hot true r x = r
further_hot false r x = record { hot = tick_hot r.hot x; passed = suc r.passed; ended = ended_hot (tick_hot r.hot x) }

abbrev pub onward_hot : Ran → Fixed → Ran
onward_hot r x = further_hot r.ended r x

abbrev pub start_ran : Hot → Ran
start_ran h = record { hot = h; passed = 0; ended = false }

unfoldable pub run_hot : ℕ → Hot → Fixed → Ran
run_hot zero h x = start_ran h
run_hot (suc n) h x = onward_hot (run_hot n h x) x

-- How far credits may be from 0: when a run begins, when a stretch of it begins, and in any byte-time of it.
abbrev pub reach : ℕ
reach = 2305843009213693952

abbrev pub wide : ℕ
wide = 2 * reach

abbrev pub far : ℕ
far = 3 * reach

-- No slope is above the whole rate, and no credit is farther from 0.
pub record Near (most : ℕ) (h : Hot) (x : Fixed) : Type 0 where
  pub idlea : x.idlea ≤ D
  pub idleb : x.idleb ≤ D
  pub credita : mag h.credita ≤ most
  pub creditb : mag h.creditb ≤ most

abbrev pub near_hot : Hot → Fixed → Bool
near_hot h x = (leb x.idlea D && leb x.idleb D) && (between reach reach h.credita && between reach reach h.creditb)

-- The byte-times of a run: n, and none where n or the numbers are out of reach.
unfoldable pub steps_of : ℕ → Hot → Fixed → ℕ
steps_of n h x = cond (leb n most_steps && near_hot h x) n 0

-- Some of the next n byte-times.
abbrev pub ran_with : Hot → ℤ → ℤ → ℕ → ℕ → Bool → Ran
ran_with h ca cb left passed ended = record { hot = hot_with h ca cb left; passed = passed; ended = ended }

pub record Stretch (n : ℕ) (h : Hot) (x : Fixed) (r : Ran) : Type 0 where
  pub some : 1 ≤ r.passed
  pub most : r.passed ≤ n
  pub ran : r ≡ run_hot r.passed h x
