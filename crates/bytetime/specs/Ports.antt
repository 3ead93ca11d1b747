-- The port that the numbers of byte-times stand for.
use Rattle.std.specs.Prelude.{ℕ, ◌+◌, ◌<◌, Bool, true, false, cond, ◌&&◌, List, [], ◌∷◌, ◌≡◌, Option, Some, None}
use Rattle.table.specs.declared.Class.TheVariants.{A, B}
use Rattle.table.specs.Limits.{left_at_report}
use Rattle.table.specs.Rows.{Contents}
use Rattle.machine.specs.declared.Frame.{Frame}
use Rattle.machine.specs.declared.Wire.{Wire}
use Rattle.machine.specs.declared.Wire.TheVariants.{Free, Sending}
use Rattle.machine.specs.State.{State, no_frame}
use Rattle.machine.specs.Time.{Owner, shaped, unshaped, owner, behind_head, Progress, progress}
use Rattle.planner.specs.Sums.{idle}
use Rattle.bytetime.specs.declared.Sender.{Sender}
use Rattle.bytetime.specs.declared.Sender.TheVariants.{Nobody, ClassA, ClassB, BestEffort}
use Rattle.bytetime.specs.declared.Hot.{Hot}
use Rattle.bytetime.specs.declared.Fixed.{Fixed}
use Rattle.bytetime.specs.declared.Ran.{Ran}
use Rattle.bytetime.specs.Bytes.{is_a, is_b, is_best, run_hot}

-- A queue has a frame, and a frame behind its head; its head.
abbrev pub some : List Frame → Bool
some [] = false
some (f ∷ fs) = true

abbrev pub head_of : List Frame → Frame
head_of [] = no_frame
head_of (f ∷ fs) = f

-- The numbers of a port: those that byte-times leave alone, and those that they change.
unfoldable pub fixed_of : State → Fixed
fixed_of s =
    record {
      idlea = idle A s.table;
      idleb = idle B s.table;
      heada = (head_of s.a).size;
      headb = (head_of s.b).size;
      headbest = (head_of s.best).size;
      morea = some (behind_head s.a);
      moreb = some (behind_head s.b);
    }

abbrev pub sender_by : Owner → Sender
sender_by (shaped A) = ClassA
sender_by (shaped B) = ClassB
sender_by unshaped = BestEffort

abbrev pub sender_on : State → Wire → Sender
sender_on s Free = Nobody
sender_on s (Sending f left) = sender_by (owner s.table f)

abbrev pub left_on : Wire → ℕ
left_on Free = 0
left_on (Sending f left) = left

unfoldable pub hot_of : State → Hot
hot_of s =
    record {
      credita = s.credita;
      creditb = s.creditb;
      left = left_on s.wire;
      sender = sender_on s s.wire;
      moved = false;
      waitsa = some s.a;
      waitsb = some s.b;
      waitsbest = some s.best;
    }

-- The frame on the wire: a queue's head if it has moved, or else the one that was there.
abbrev pub head_for : Sender → State → Frame
head_for Nobody s = no_frame
head_for ClassA s = head_of s.a
head_for ClassB s = head_of s.b
head_for BestEffort s = head_of s.best

abbrev pub frame_on : Wire → Frame
frame_on Free = no_frame
frame_on (Sending f left) = f

abbrev pub frame_of : State → Hot → Frame
frame_of s h = cond h.moved (head_for h.sender s) (frame_on s.wire)

-- The wire, by who has it.
abbrev pub wire_by : Sender → Frame → ℕ → Wire
wire_by Nobody f left = Free
wire_by ClassA f left = Sending f left
wire_by ClassB f left = Sending f left
wire_by BestEffort f left = Sending f left

-- A queue whose head went out has those behind it.
abbrev pub queue_after : Bool → List Frame → List Frame
queue_after gone q = cond gone (behind_head q) q

-- The port after byte-times on its numbers, and the frame that was reported in the last of them.
unfoldable pub after_run : State → Ran → State
after_run s r =
    record {
      table = s.table;
      bounds = s.bounds;
      clock = s.clock + r.passed;
      credita = r.hot.credita;
      creditb = r.hot.creditb;
      a = queue_after (r.hot.moved && is_a r.hot.sender) s.a;
      b = queue_after (r.hot.moved && is_b r.hot.sender) s.b;
      best = queue_after (r.hot.moved && is_best r.hot.sender) s.best;
      last = s.last;
      wire = wire_by r.hot.sender (frame_of s r.hot) r.hot.left;
    }

abbrev pub ended_by : State → Ran → Option Frame
ended_by s r = cond r.ended (Some (frame_of s r.hot)) None

-- A port whose heads fit, as those of every sound port do: a head is of its queue's class, and longer than what is left at a report.
pub record HeadFits (t : Contents) (o : Owner) (q : List Frame) : Type 0 where
  pub owned : some q ≡ true → owner t (head_of q) ≡ o
  pub bytes : some q ≡ true → left_at_report < (head_of q).size

pub record Fits (s : State) : Type 0 where
  pub a : HeadFits s.table (shaped A) s.a
  pub b : HeadFits s.table (shaped B) s.b
  pub best : HeadFits s.table unshaped s.best

-- Byte-times on a port's numbers are the machine's: the same count, the same frame reported, the same port.
pub record SameRun (s : State) (p : Progress) (r : Ran) : Type 0 where
  pub passed : p.passed ≡ r.passed
  pub ended : p.ended ≡ ended_by s r
  pub state : p.state ≡ after_run s r

abbrev pub AsMachine : Type 0
AsMachine = (s : State) → Fits s → (n : ℕ) → SameRun s (progress n s) (run_hot n (hot_of s) (fixed_of s))
