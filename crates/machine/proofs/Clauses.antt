-- What a sound record has, of any content: each of the document's clauses, and what each says of the queues and the wire.
use Prim.Native.Nat.{ℕ, zero, suc, ◌<◌}
use mathlib.Core.Bool.{Bool, true, false, ◌&&◌, ◌||◌}
use mathlib.Core.List.{List, [], ◌∷◌}
use mathlib.Core.Path.{◌≡◌, refl}
use native.Mathlib.Omega.{arith}
use lib.Dec.{eqb}
use borrow.Author.Tests.{eqb-true, eqb-false}
use Rattle.table.specs.declared.Class.TheVariants.{A, B}
use Rattle.table.specs.Rows.{Contents}
use Rattle.table.proofs.Laws as table
use Rattle.planner.specs.Sums.{best_size}
use Rattle.machine.specs.declared.Frame.{Frame}
use Rattle.machine.specs.State.{State}
use Rattle.machine.specs.Time.{unshaped, owner}
use Rattle.machine.specs.Record.{all_of, on_sending, names_row, is_best, row_in, size_within, row_size, size_by, taken_by, up_to, all_true, table_sound, count_sound, bounds_sound, clock_sound, credit_sound, best_sound, names_sound, queues_sound, sizes_sound, left_sound, frames_taken, rows_taken, held_sound, apart_sound, latest_sound, age_sound, sound}
use Rattle.machine.proofs.OneClass.{All}

-- ---- facts from tests
abbrev pub Each : List Bool → Type 0
Each [] = Unit {0}
Each (b ∷ bs) = (b ≡ true) × Each bs

pub each_true : (bs : List Bool) → all_true bs ≡ true → Each bs
each_true [] e = tt
each_true (b ∷ bs) e = let p = table.and-true b (all_true bs) e in (p.0, each_true bs p.1)

-- the tests of a list, passed by a frame, and each of them by all frames of a queue
abbrev pub Passes : List (Frame → Bool) → Frame → Type 0
Passes [] f = Unit {0}
Passes (ok ∷ oks) f = (ok f ≡ true) × Passes oks f

abbrev pub AllPass : List (Frame → Bool) → List Frame → Type 0
AllPass [] q = Unit {0}
AllPass (ok ∷ oks) q = (all_of ok q ≡ true) × AllPass oks q

head_passes : (oks : List (Frame → Bool)) (f : Frame) (q : List Frame) → AllPass oks (f ∷ q) → Passes oks f × AllPass oks q
head_passes [] f q e = (tt, tt)
head_passes (ok ∷ oks) f q e =
    let p = table.and-true (ok f) (all_of ok q) e.0 in
    let r = head_passes oks f q e.1 in
    ((p.0, r.0), (p.1, r.1))

pub each_passes : (oks : List (Frame → Bool)) (P : Frame → Type 0) → ((f : Frame) → Passes oks f → P f) → (q : List Frame) → AllPass oks q → All P q
each_passes oks P fact [] e = tt
each_passes oks P fact (f ∷ q) e = let p = head_passes oks f q e in (fact f p.0, each_passes oks P fact q p.1)

pub up_to_true : (n : ℕ) (ok : ℕ → Bool) → up_to n ok ≡ true → (k : ℕ) → k < n → ok k ≡ true
up_to_true zero ok e k h = absurd (omega arith)
up_to_true (suc n) ok e k h = go (eqb k n) refl (up_to_true n ok p.0)
  where
    p : (up_to n ok ≡ true) × (ok n ≡ true)
    p = table.and-true (up_to n ok) (ok n) e

    go : (b : Bool) → eqb k n ≡ b → ((j : ℕ) → j < n → ok j ≡ true) → ok k ≡ true
    go true q rest = rw (eqb-true k n q) p.1
    go false q rest = rest k (omega (arith, eqb-false k n q))

pub three_true : (x y z : Bool) → ((x && y) && z) ≡ true → (x ≡ true) × (y ≡ true) × (z ≡ true)
three_true x y z e =
    let p = table.and-true (x && y) z e in
    let q = table.and-true x y p.0 in
    (q.0, q.1, p.1)

pub four_true : (x y z w : Bool) → ((x && y) && (z && w)) ≡ true → (x ≡ true) × (y ≡ true) × (z ≡ true) × (w ≡ true)
four_true x y z w e =
    let p = three_true x y (z && w) e in
    let q = table.and-true z w p.2 in
    (p.0, p.1, q.0, q.1)

-- ---- the clauses of a sound record
pub record Clauses (s : State) : Type 0 where
  pub table : table_sound s ≡ true
  pub count : count_sound s ≡ true
  pub bounds : bounds_sound s ≡ true
  pub clock : clock_sound s ≡ true
  pub credit_a : credit_sound A s ≡ true
  pub credit_b : credit_sound B s ≡ true
  pub best : best_sound s ≡ true
  pub names : names_sound s ≡ true
  pub queues : queues_sound s ≡ true
  pub sizes : sizes_sound s ≡ true
  pub left : left_sound s ≡ true
  pub frames : frames_taken s ≡ true
  pub rows : rows_taken s ≡ true
  pub held : held_sound s ≡ true
  pub apart : apart_sound s ≡ true
  pub latest : latest_sound s ≡ true
  pub age : age_sound s ≡ true

pub clauses : (s : State) → sound s ≡ true → Clauses s
unfolding sound
clauses s e =
    let c = each_true (table_sound s ∷ count_sound s ∷ bounds_sound s ∷ clock_sound s ∷ credit_sound A s ∷ credit_sound B s ∷ best_sound s ∷ names_sound s ∷ queues_sound s ∷ sizes_sound s ∷ left_sound s ∷ frames_taken s ∷ rows_taken s ∷ held_sound s ∷ apart_sound s ∷ latest_sound s ∷ age_sound s ∷ []) e in
    record {
      table = c.0;
      count = c.1.0;
      bounds = c.1.1.0;
      clock = c.1.1.1.0;
      credit_a = c.1.1.1.1.0;
      credit_b = c.1.1.1.1.1.0;
      best = c.1.1.1.1.1.1.0;
      names = c.1.1.1.1.1.1.1.0;
      queues = c.1.1.1.1.1.1.1.1.0;
      sizes = c.1.1.1.1.1.1.1.1.1.0;
      left = c.1.1.1.1.1.1.1.1.1.1.0;
      frames = c.1.1.1.1.1.1.1.1.1.1.1.0;
      rows = c.1.1.1.1.1.1.1.1.1.1.1.1.0;
      held = c.1.1.1.1.1.1.1.1.1.1.1.1.1.0;
      apart = c.1.1.1.1.1.1.1.1.1.1.1.1.1.1.0;
      latest = c.1.1.1.1.1.1.1.1.1.1.1.1.1.1.1.0;
      age = c.1.1.1.1.1.1.1.1.1.1.1.1.1.1.1.1.0;
    }

-- a frame that names no row is of no class
pub unnamed : (t : Contents) (f : Frame) → names_row t f ≡ false → owner t f ≡ unshaped
unfolding owner
unnamed t f e = rw e refl

-- ---- what a clause says of queue A, queue B, best effort's and the wire
module _ (s : State) (c : Clauses s) where
  pub names_parts : (all_of (names_row s.table) s.a ≡ true) × (all_of (names_row s.table) s.b ≡ true) × (on_sending (λ f left. names_row s.table f || is_best f) s.wire ≡ true)
  unfolding names_sound
  names_parts = three_true _ _ _ c.names

  pub queue_parts : (all_of (row_in A s.table) s.a ≡ true) × (all_of (row_in B s.table) s.b ≡ true) × (all_of is_best s.best ≡ true)
  unfolding queues_sound
  queue_parts = three_true _ _ _ c.queues

  pub sizes_parts : (all_of (row_size s.table) s.a ≡ true) × (all_of (row_size s.table) s.b ≡ true) × (all_of (size_within (best_size s.table)) s.best ≡ true) × (on_sending (λ f left. size_by (owner s.table f) s.table f) s.wire ≡ true)
  unfolding sizes_sound
  sizes_parts = four_true _ _ _ _ c.sizes

  pub taken_parts : (all_of (taken_by s.clock) s.a ≡ true) × (all_of (taken_by s.clock) s.b ≡ true) × (all_of (taken_by s.clock) s.best ≡ true) × (on_sending (λ f left. taken_by s.clock f) s.wire ≡ true)
  unfolding frames_taken
  taken_parts = four_true _ _ _ _ c.frames
