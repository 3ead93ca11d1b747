-- One byte-time, in four steps, and byte-times until a frame is reported ended.
use Rattle.std.specs.Prelude.{ℕ, zero, suc, Bool, true, false, cond, List, [], ◌∷◌, ℤ, pos, negsuc, ◌+ℤ◌, ◌-ℤ◌, eqb, Option, Some, None}
use Rattle.table.specs.declared.Class.{Class}
use Rattle.table.specs.declared.Class.TheVariants.{A, B}
use Rattle.table.specs.Limits.{left_at_report}
use Rattle.table.specs.Rows.{Contents, row_at, in_use, same_class}
use Rattle.planner.specs.Sums.{idle, send}
use Rattle.machine.specs.declared.Frame.{Frame}
use Rattle.machine.specs.declared.Wire.{Wire}
use Rattle.machine.specs.declared.Wire.TheVariants.{Free, Sending}
use Rattle.machine.specs.State.{State, credit, queue, with_clock, with_credits, with_queue, with_best, with_wire}

-- A frame is of the class of the row that it names, or of best effort.
pub data Owner : Type 0 where
  shaped : Class → Owner
  unshaped : Owner

unfoldable pub owner : Contents → Frame → Owner
owner t f = cond (in_use t f.source) (shaped (row_at t f.source).class) unshaped

abbrev pub owns : Class → Owner → Bool
owns c (shaped d) = same_class c d
owns c unshaped = false

-- A class has its frame on the wire.
abbrev pub on_wire : Class → Contents → Wire → Bool
on_wire c t Free = false
on_wire c t (Sending f left) = owns c (owner t f)

-- Step 1. On a free wire, the head of A goes out if A's credit is at least 0; else the head of B likewise; else the best-effort head; else the wire stays free.
abbrev pub ready : ℤ → List Frame → Bool
ready (pos n) [] = false
ready (pos n) (f ∷ fs) = true
ready (negsuc n) q = false

abbrev pub head_out : List Frame → Wire
head_out [] = Free
head_out (f ∷ fs) = Sending f f.size

abbrev pub behind_head : List Frame → List Frame
behind_head [] = []
behind_head (f ∷ fs) = fs

abbrev pub send_of : Class → State → State
send_of c s = with_wire (head_out (queue c s)) (with_queue c (behind_head (queue c s)) s)

abbrev pub send_best : State → State
send_best s = with_wire (head_out s.best) (with_best (behind_head s.best) s)

abbrev pub start_on : Wire → State → State
start_on Free s = cond (ready (credit A s) (queue A s)) (send_of A s) (cond (ready (credit B s) (queue B s)) (send_of B s) (send_best s))
start_on (Sending f left) s = s

unfoldable pub start : State → State
start s = start_on s.wire s

-- Step 2. A class with its frame on the wire loses S. A class with a waiting frame and none on the wire gains I. A class with neither gains I if below 0, but not above 0.
abbrev pub up_to_zero : ℤ → ℤ
up_to_zero (pos n) = pos 0
up_to_zero (negsuc n) = negsuc n

abbrev pub rise : ℤ → ℕ → ℤ
rise (pos n) i = pos n
rise (negsuc n) i = up_to_zero (negsuc n +ℤ pos i)

abbrev pub earned : Bool → List Frame → ℕ → ℕ → ℤ → ℤ
earned true q i s c = c -ℤ pos s
earned false (f ∷ fs) i s c = c +ℤ pos i
earned false [] i s c = rise c i

abbrev pub earned_by : Class → State → ℤ
earned_by c s = earned (on_wire c s.table s.wire) (queue c s) (idle c s.table) (send c s.table) (credit c s)

abbrev pub earn : State → State
earn s = with_credits (earned_by A s) (earned_by B s) s

-- Step 3. One byte passes, the clock gains 1; after the last byte the frame is over and the wire is free.
abbrev pub wire_after : Wire → Wire
wire_after Free = Free
wire_after (Sending f zero) = Free
wire_after (Sending f (suc zero)) = Free
wire_after (Sending f (suc (suc left))) = Sending f (suc left)

abbrev pub pass : State → State
pass s = with_clock (suc s.clock) (with_wire (wire_after s.wire) s)

-- A frame has ended, and is reported, in the byte-time that leaves `left_at_report` of its bytes. Those still pass, and the frame is reported no second time.
unfoldable pub reported_in : Wire → Option Frame
reported_in Free = None
reported_in (Sending f left) = cond (eqb left (suc left_at_report)) (Some f) None

-- Step 4. A class with no frame waiting or on the wire and credit above 0 goes to 0.
abbrev pub settled : Bool → List Frame → ℤ → ℤ
settled true q c = c
settled false (f ∷ fs) c = c
settled false [] c = up_to_zero c

abbrev pub settled_by : Class → State → ℤ
settled_by c s = settled (on_wire c s.table s.wire) (queue c s) (credit c s)

abbrev pub settle : State → State
settle s = with_credits (settled_by A s) (settled_by B s) s

-- One byte-time, and the frame that is reported in it.
unfoldable pub byte_time : State → State
byte_time s = settle (pass (earn (start s)))

unfoldable pub ends_in : State → Option Frame
ends_in s = reported_in (start s).wire

-- Byte-times until a frame is reported or n have passed.
pub record Progress : Type 0 where
  pub state : State
  pub passed : ℕ
  pub ended : Option Frame

abbrev pub further : Option Frame → Progress → Progress
further (Some f) p = p
further None p = record { state = byte_time p.state; passed = suc p.passed; ended = ends_in p.state }

abbrev pub onward : Progress → Progress
onward p = further p.ended p

unfoldable pub progress : ℕ → State → Progress
progress zero s = record { state = s; passed = 0; ended = None }
progress (suc n) s = onward (progress n s)
