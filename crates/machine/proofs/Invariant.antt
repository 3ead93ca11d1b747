-- The invariant, of a port that any list of calls has reached from the fresh port of an accepted table: what holds of any port, and what needs the
-- planner's timing.
use Prim.Native.Nat.{ℕ, zero, suc, ◌+◌, ◌-◌, ◌*◌, ◌≤◌}
use mathlib.Core.Bool.{Bool, true, false}
use mathlib.Core.List.{List, [], ◌∷◌, ◌++◌}
use mathlib.Core.Path.{◌≡◌, refl}
use native.Mathlib.Nat.{le_trans, mul-le-mul_left}
use native.Mathlib.Omega.{arith}
use lib.ListN.{length, get_or}
use Rattle.table.specs.declared.Class.{Class}
use Rattle.table.specs.declared.Class.TheVariants.{A, B}
use Rattle.table.specs.Limits.{D, least_size}
use Rattle.table.specs.Wire.{size_of, period_of}
use Rattle.table.specs.Rows.{Contents, row_at, InUse}
use Rattle.table.proofs.Laws as table
use Rattle.planner.specs.Sums.{largest, total, idle, send, best_size}
use Rattle.planner.specs.Bound.{blocking, residence, bounds_of}
use Rattle.planner.specs.Opening.{IsAccepted}
use Rattle.planner.proofs.Laws as law
use Rattle.machine.specs.declared.Frame.{Frame}
use Rattle.machine.specs.declared.Wire.{Wire}
use Rattle.machine.specs.declared.Wire.TheVariants.{Free, Sending}
use Rattle.machine.specs.Limits.{last_clock, best_mark, best_places}
use Rattle.machine.specs.State.{Instant, never, at, instants_for, State, credit, queue}
use Rattle.machine.specs.Time.{Owner, shaped, unshaped, owner, owns, on_wire, wire_after}
use Rattle.machine.specs.Record.{taken_in}
use Rattle.machine.proofs.Tokens.{tokens}
use Rattle.machine.proofs.OneClass.{Look, mine, other, is_mine, next, All, Terms, Ground, Kept}
use Rattle.machine.proofs.Chain.{Chain}
use Rattle.machine.proofs.Both.{Line, free, by_a, by_b, by_best_lem, next_line_lem, Ceilings, Idle, Room, ceiling_b}

-- ---- the wire as a class sees it, and as both see it
abbrev pub look_by : Bool → Frame → ℕ → Look
look_by true f l = mine f l
look_by false f l = other

abbrev pub look : Class → Contents → Wire → Look
look c t Free = other
look c t (Sending f l) = look_by (owns c (owner t f)) f l

abbrev pub line_by : Owner → ℕ → ℕ → Line
line_by (shaped A) z l = by_a l
line_by (shaped B) z l = by_b z l
line_by unshaped z l = by_best_lem z l

abbrev pub line : Contents → Wire → Line
line t Free = free
line t (Sending f l) = line_by (owner t f) f.size l

-- ---- line 5: frames
pub record RowFrame (c : Class) (t : Contents) (f : Frame) : Type 0 where
  pub names : InUse t f.source
  pub class : (row_at t f.source).class ≡ c
  pub least : least_size ≤ f.size
  pub most : f.size ≤ size_of (row_at t f.source)

pub record BestFrame (t : Contents) (now : ℕ) (f : Frame) : Type 0 where
  pub mark : f.source ≡ best_mark
  pub least : least_size ≤ f.size
  pub most : f.size ≤ best_size t
  pub past : f.taken ≤ now

abbrev pub WireFrame : Owner → Contents → ℕ → Frame → ℕ → Type 0
WireFrame (shaped c) t now f l = RowFrame c t f
WireFrame unshaped t now f l = BestFrame t now f × (1 ≤ l) × (l ≤ f.size)

abbrev pub OnTheWire : Contents → ℕ → Wire → Type 0
OnTheWire t now Free = Unit {0}
OnTheWire t now (Sending f l) = WireFrame (owner t f) t now f l

pub record Frames (s : State) : Type 0 where
  pub rows : (c : Class) → All (RowFrame c s.table) (queue c s)
  pub best : All (BestFrame s.table s.clock) s.best
  pub few : length s.best ≤ best_places
  pub wire : OnTheWire s.table s.clock s.wire

-- ---- line 6: a row's frames
-- a class's frames in the port, oldest first
abbrev pub own_frames : Look → List Frame
own_frames (mine f l) = f ∷ []
own_frames other = []

abbrev pub class_frames : Class → State → List Frame
class_frames c s = own_frames (look c s.table s.wire) ++ queue c s

-- the instants of a row's frames in the port
abbrev pub row_instants : ℕ → State → List ℕ
row_instants k s = taken_in k (class_frames (row_at s.table k).class s)

abbrev pub Chained : State → Type 0
Chained s = (k : ℕ) → InUse s.table k → Chain (period_of (row_at s.table k)) (row_instants k s) (get_or s.last k never)

abbrev pub NoneAfter : ℕ → List Instant → Type 0
NoneAfter now [] = Unit {0}
NoneAfter now (never ∷ is) = NoneAfter now is
NoneAfter now (at k ∷ is) = (k ≤ now) × NoneAfter now is

-- one instant a number, none at an empty one, none after the clock
pub record Instants (s : State) : Type 0 where
  pub lasts : length s.last ≡ length s.table.rows
  pub in_use_lem : instants_for s.table.rows s.last ≡ s.last
  pub none_after_lem : NoneAfter s.clock s.last

-- ---- the terms of a table's classes
abbrev pub terms : Class → Contents → Terms
terms c t = record { idle = idle c t; send = send c t; floor = send c t * largest c t; total = total c t; size = λ k. size_of (row_at t k); residence = λ k. residence t (row_at t k) }

-- lines 1 and 5 of a class, and lines 2, 7, 8 and 9
abbrev pub GroundOf : Class → State → ℕ → Type 0
GroundOf c s u = Ground (terms c s.table) s.clock (credit c s) (queue c s) (look c s.table s.wire) u

abbrev pub KeptOf : Class → State → ℕ → Type 0
KeptOf c s u = Kept (terms c s.table) s.clock (tokens c s.clock s.table.rows s.last) (queue c s) (look c s.table s.wire) u

-- lines 3 and 4
abbrev pub Ceiled : Contents → Line → (Class → ℕ) → Type 0
Ceiled t ln u = Ceilings (terms A t) (terms B t) (blocking A t) (best_size t) ln (u A) (u B)

abbrev pub Idled : Contents → Line → (Class → ℕ) → Type 0
Idled t ln u = Idle (terms A t) (terms B t) (blocking A t) (best_size t) ln (u A) (u B)

-- what holds of any port
pub record Always (s : State) (u : Class → ℕ) : Type 0 where
  pub accepted : IsAccepted s.table
  pub count : InUse s.table (length s.table.rows - 1)
  pub bounds : s.bounds ≡ bounds_of s.table
  pub clock : s.clock ≤ last_clock
  pub ground : (c : Class) → GroundOf c s (u c)
  pub frames : Frames s
  pub instants : Instants s
  pub chain : Chained s

-- what needs the planner's timing
pub record Timed (s : State) (u : Class → ℕ) : Type 0 where
  pub kept : (c : Class) → KeptOf c s (u c)
  pub ceilings : Ceiled s.table (line s.table s.wire) u

pub record Inv (s : State) (u : Class → ℕ) : Type 0 where
  pub always : Always s u
  pub timed : Timed s u

-- the headroom of each class with the lines that hold of it
pub record Holds (s : State) : Type 0 where
  pub u : Class → ℕ
  pub inv : Inv s u

-- ---- who owns a frame
pub named_owner : (t : Contents) (f : Frame) → InUse t f.source → owner t f ≡ shaped (row_at t f.source).class
unfolding owner
named_owner t f h = rw (table.used t f.source h) refl

pub row_owner : {c : Class} {t : Contents} (f : Frame) → RowFrame c t f → owner t f ≡ shaped c
row_owner {c} {t} f r = rw (← r.class) (named_owner t f r.names)

pub unnamed_owner : (t : Contents) (f : Frame) → length t.rows ≤ f.source → owner t f ≡ unshaped
unfolding owner
unnamed_owner t f h = rw (table.unused t f.source h) refl

pub best_owner : {t : Contents} {now : ℕ} (ok : IsAccepted t) (f : Frame) → BestFrame t now f → owner t f ≡ unshaped
best_owner {t} ok f r = unnamed_owner t f (omega (arith, r.mark, law.rows_most t ok))

-- ---- a class's view of a byte
pub look_is : (c : Class) (t : Contents) (w : Wire) → is_mine (look c t w) ≡ on_wire c t w
look_is c t Free = refl
look_is c t (Sending f l) = go (owns c (owner t f))
  where
    go : (b : Bool) → is_mine (look_by b f l) ≡ b
    go true = refl
    go false = refl

pub look_next : (c : Class) (t : Contents) (w : Wire) → next (look c t w) ≡ look c t (wire_after w)
look_next c t Free = refl
look_next c t (Sending f zero) = go (owns c (owner t f))
  where
    go : (b : Bool) → next (look_by b f 0) ≡ other
    go true = refl
    go false = refl
look_next c t (Sending f (suc zero)) = go (owns c (owner t f))
  where
    go : (b : Bool) → next (look_by b f 1) ≡ other
    go true = refl
    go false = refl
look_next c t (Sending f (suc (suc l))) = go (owns c (owner t f))
  where
    go : (b : Bool) → next (look_by b f (suc (suc l))) ≡ look_by b f (suc l)
    go true = refl
    go false = refl

pub line_next : (t : Contents) (w : Wire) → next_line_lem (line t w) ≡ line t (wire_after w)
line_next t Free = refl
line_next t (Sending f zero) = go (owner t f)
  where
    go : (o : Owner) → next_line_lem (line_by o f.size 0) ≡ free
    go (shaped A) = refl
    go (shaped B) = refl
    go unshaped = refl
line_next t (Sending f (suc zero)) = go (owner t f)
  where
    go : (o : Owner) → next_line_lem (line_by o f.size 1) ≡ free
    go (shaped A) = refl
    go (shaped B) = refl
    go unshaped = refl
line_next t (Sending f (suc (suc l))) = go (owner t f)
  where
    go : (o : Owner) → next_line_lem (line_by o f.size (suc (suc l))) ≡ line_by o f.size (suc l)
    go (shaped A) = refl
    go (shaped B) = refl
    go unshaped = refl

-- what holds of both classes
pub each : (P : Class → Type 0) → P A → P B → (c : Class) → P c
each P a b A = a
each P a b B = b

-- ---- what the planner's laws say of the terms
module _ (t : Contents) (ok : IsAccepted t) where
  pub row_within : (c : Class) (f : Frame) → RowFrame c t f → f.size ≤ largest c t
  row_within c f r = le_trans r.most (rw r.class at (law.size_largest t ok f.source r.names))

  pub row_costs : (c : Class) (f : Frame) → RowFrame c t f → send c t * f.size ≤ send c t * largest c t
  row_costs c f r = mul-le-mul_left (send c t) (row_within c f r)

  pub row_bounded : (c : Class) (f : Frame) → RowFrame c t f → (age : ℕ) → idle c t * age + D * size_of (row_at t f.source) ≤ idle c t * blocking c t + send c t * largest c t + D * total c t → age + size_of (row_at t f.source) ≤ residence t (row_at t f.source)
  row_bounded c f r age h = law.residence_waits t ok f.source r.names age (rw r.class (omega arith))

  pub room : Room (terms A t) (terms B t) (blocking A t) (best_size t)
  room =
      record {
        balance = law.idle_send t ok A;
        b_below = omega (arith, law.slopes_below t ok);
        a_below = omega (arith, law.slopes_below t ok);
        ha_some = omega (arith, (law.blocking_a t ok).0, law.best_least t ok);
        lc_some = omega (arith, law.best_least t ok);
      }

  -- a credit is at most I × H
  pub ceiling : (ln : Line) (u : Class → ℕ) → Ceiled t ln u → (c : Class) → u c ≤ idle c t * blocking c t + send c t * largest c t
  ceiling ln u h A = omega (arith, h.ceiling)
  ceiling ln u h B = omega (arith, ceiling_b (terms A t) (terms B t) (blocking A t) (best_size t) room (blocking B t) (largest A t) refl (law.blocking_b t ok) (omega (arith, law.send_least t ok A)) ln (u A) (u B) h)
