-- The tests of the record check against document 01's clauses: a record passes the one exactly if it passes the other.
use Prim.Native.Nat.{ℕ, zero, suc, ◌-◌, ◌<◌}
use mathlib.Core.Bool.{Bool, true, false, cond, ◌&&◌, ◌||◌, false≢true}
use mathlib.Core.List.{List, [], ◌∷◌, ◌++◌}
use mathlib.Core.Path.{◌≡◌, refl, sym, ◌∙◌}
use native.Mathlib.Omega.{arith}
use lib.Dec.{leb, ltb}
use lib.ListN.{length, get_or}
use borrow.Author.Tests.{le-leb}
use Rattle.table.specs.declared.Class.{Class}
use Rattle.table.specs.declared.Class.TheVariants.{A, B}
use Rattle.table.specs.Wire.{period_of}
use Rattle.table.specs.Rows.{Contents, row_at, in_use, InUse}
use Rattle.planner.specs.Sums.{best_size}
use Rattle.table.proofs.Laws as table
use Rattle.planner.specs.Bound.{residence, most_of}
use Rattle.planner.specs.Opening.{IsAccepted}
use Rattle.planner.proofs.Laws as law
use Rattle.machine.specs.declared.Frame.{Frame}
use Rattle.machine.specs.declared.Wire.{Wire}
use Rattle.machine.specs.declared.Wire.TheVariants.{Free, Sending}
use Rattle.machine.specs.State.{never, State}
use Rattle.machine.specs.Time.{shaped, unshaped, owner}
use Rattle.machine.specs.Record.{all_of, on_sending, names_row, is_best, row_in, size_within, row_size, size_by, taken_by, sending, taken_of, spaced, ends_at, row_only, table_sound, count_sound, bounds_sound, clock_sound, credit_sound, best_sound, names_sound, queues_sound, sizes_sound, left_sound, frames_taken, rows_taken, held_sound, apart_sound, latest_sound, age_sound, sound}
use Rattle.machine.proofs.FromSound.{three_true, four_true, Clauses, clauses, table_accepted, is_accepted_lem}
use Rattle.frames.specs.Tests.{row_test, frame_test, best_test, sending_test}
use Rattle.tally.specs.Rows.{in_limit, instants_test, held_test}
use Rattle.spacing.proofs.Laws.{up_to_same, up_to_both}
use Rattle.record.specs.Steps.{numbers_test, others_test, waiting_test, rows_test}

-- ---- tests
pub same_test_lem : (x y : Bool) → (x ≡ true → y ≡ true) → (y ≡ true → x ≡ true) → x ≡ y
same_test_lem true y f g = sym (f refl)
same_test_lem false true f g = g refl
same_test_lem false false f g = refl

all_same : (x y : Frame → Bool) → ((f : Frame) → x f ≡ y f) → (q : List Frame) → all_of x q ≡ all_of y q
all_same x y e [] = refl
all_same x y e (f ∷ q) = rw (e f, all_same x y e q) refl

all_both : (x y : Frame → Bool) (q : List Frame) → all_of (λ f. x f && y f) q ≡ (all_of x q && all_of y q)
all_both x y [] = refl
all_both x y (f ∷ q) = go (x f) (y f) (all_of x q) (all_of y q) (all_both x y q)
  where
    go : (a b c d : Bool) {e : Bool} → e ≡ (c && d) → ((a && b) && e) ≡ ((a && c) && (b && d))
    go true true c d p = p
    go true false true d p = refl
    go true false false d p = refl
    go false b c d p = refl

-- the limits are the rows' residences
abbrev pub Right : Contents → List ℕ → Type 0
Right t limits = (k : ℕ) → InUse t k → get_or limits k 0 ≡ residence t (row_at t k)

-- ---- a class's queue
abbrev young_by : Contents → ℕ → Frame → Bool
young_by t now f = ltb (now - f.taken) (residence t (row_at t f.source))

record OfQueue (c : Class) (t : Contents) (now : ℕ) (q : List Frame) : Type 0 where
  names : all_of (names_row t) q ≡ true
  class : all_of (row_in c t) q ≡ true
  sizes : all_of (row_size t) q ≡ true
  taken : all_of (taken_by now) q ≡ true
  young : all_of (young_by t now) q ≡ true

module _ (t : Contents) (limits : List ℕ) (right : Right t limits) (c : Class) (now : ℕ) (q : List Frame) where
  abbrev fits : Frame → Bool
  fits f = row_in c t f && row_size t f

  abbrev timely : Frame → Bool
  timely f = taken_by now f && young_by t now f

  -- a row's limit is its residence
  frame_tests : (f : Frame) → frame_test c t limits now f ≡ (names_row t f && (fits f && timely f))
  unfolding frame_test row_test
  frame_tests f = go (names_row t f) refl
    where
      go : (b : Bool) → names_row t f ≡ b → frame_test c t limits now f ≡ (names_row t f && (fits f && timely f))
      go true e = rw (e, right f.source (table.is_used t f.source e)) refl
      go false e = rw e refl

  queue_tests : all_of (frame_test c t limits now) q ≡ (all_of (names_row t) q && ((all_of (row_in c t) q && all_of (row_size t) q) && (all_of (taken_by now) q && all_of (young_by t now) q)))
  queue_tests =
      rw (all_same (frame_test c t limits now) (λ f. names_row t f && (fits f && timely f)) frame_tests q, all_both (names_row t) (λ f. fits f && timely f) q, all_both fits timely q, all_both (row_in c t) (row_size t) q, all_both (taken_by now) (young_by t now) q)
      refl

  of_queue : all_of (frame_test c t limits now) q ≡ true → OfQueue c t now q
  of_queue e =
      let p = table.and-true (all_of (names_row t) q) _ (sym queue_tests ∙ e) in
      let f = table.and-true (all_of (row_in c t) q && all_of (row_size t) q) _ p.1 in
      let g = table.and-true (all_of (row_in c t) q) (all_of (row_size t) q) f.0 in
      let h = table.and-true (all_of (taken_by now) q) (all_of (young_by t now) q) f.1 in
      record { names = p.0; class = g.0; sizes = g.1; taken = h.0; young = h.1 }

  queue_passes : OfQueue c t now q → all_of (frame_test c t limits now) q ≡ true
  queue_passes p = queue_tests ∙ rw (p.names, p.class, p.sizes, p.taken, p.young) refl

-- ---- the best-effort queue
record OfBest (most now : ℕ) (q : List Frame) : Type 0 where
  marks : all_of is_best q ≡ true
  sizes : all_of (size_within most) q ≡ true
  taken : all_of (taken_by now) q ≡ true

module _ (most now : ℕ) (q : List Frame) where
  best_tests : all_of (best_test most now) q ≡ ((all_of is_best q && all_of (size_within most) q) && all_of (taken_by now) q)
  unfolding best_test
  best_tests = rw (all_both (λ f. is_best f && size_within most f) (taken_by now) q, all_both is_best (size_within most) q) refl

  of_best : all_of (best_test most now) q ≡ true → OfBest most now q
  of_best e =
      let p = table.and-true (all_of is_best q && all_of (size_within most) q) (all_of (taken_by now) q) (sym best_tests ∙ e) in
      let g = table.and-true (all_of is_best q) (all_of (size_within most) q) p.0 in
      record { marks = g.0; sizes = g.1; taken = p.1 }

  best_passes : OfBest most now q → all_of (best_test most now) q ≡ true
  best_passes p = best_tests ∙ rw (p.marks, p.sizes, p.taken) refl

-- ---- the wire
record OfWire (t : Contents) (now : ℕ) (w : Wire) : Type 0 where
  names : on_sending (λ f left. names_row t f || is_best f) w ≡ true
  sizes : on_sending (λ f left. size_by (owner t f) t f) w ≡ true
  left : on_sending (λ f left. leb 1 left && leb left f.size) w ≡ true
  taken : on_sending (λ f left. taken_by now f) w ≡ true
  young : on_sending (λ f left. row_only (owner t f) (young_by t now f)) w ≡ true

module _ (t : Contents) (limits : List ℕ) (right : Right t limits) (now : ℕ) where
  -- a frame on the wire that names a row, or does not
  owned : (f : Frame) → names_row t f ≡ true → owner t f ≡ shaped (row_at t f.source).class
  unfolding owner
  owned f e = rw e refl

  unowned : (f : Frame) → names_row t f ≡ false → owner t f ≡ unshaped
  unfolding owner
  unowned f e = rw e refl

  module _ (f : Frame) (left : ℕ) where
    abbrev bytes : Bool
    bytes = leb 1 left && leb left f.size

    abbrev own : Class
    own = (row_at t f.source).class

    by_row : names_row t f ≡ true → sending_test t limits now f left ≡ (bytes && frame_test own t limits now f)
    unfolding sending_test
    by_row n = rw n refl

    by_mark : names_row t f ≡ false → sending_test t limits now f left ≡ (bytes && best_test (best_size t) now f)
    unfolding sending_test
    by_mark n = rw n refl

    of_row : names_row t f ≡ true → sending_test t limits now f left ≡ true → OfWire t now (Sending f left)
    of_row n e =
        let p = table.and-true bytes (frame_test own t limits now f) (sym (by_row n) ∙ e) in
        let q = of_queue t limits right own now (f ∷ []) (rw p.1 refl) in
        record {
          names = rw n refl;
          sizes = rw (owned f n) (table.and-true (row_size t f) true q.sizes).0;
          left = p.0;
          taken = (table.and-true (taken_by now f) true q.taken).0;
          young = rw (owned f n) (table.and-true (young_by t now f) true q.young).0;
        }

    of_mark : names_row t f ≡ false → sending_test t limits now f left ≡ true → OfWire t now (Sending f left)
    of_mark n e =
        let p = table.and-true bytes (best_test (best_size t) now f) (sym (by_mark n) ∙ e) in
        let q = of_best (best_size t) now (f ∷ []) (rw p.1 refl) in
        record {
          names = rw n (table.and-true (is_best f) true q.marks).0;
          sizes = rw (unowned f n) (table.and-true (size_within (best_size t) f) true q.sizes).0;
          left = p.0;
          taken = (table.and-true (taken_by now f) true q.taken).0;
          young = rw (unowned f n) refl;
        }

    row_passes_lem : names_row t f ≡ true → OfWire t now (Sending f left) → sending_test t limits now f left ≡ true
    row_passes_lem n w =
        let sizes : row_size t f ≡ true = rw (owned f n) at w.sizes in
        let young : young_by t now f ≡ true = rw (owned f n) at w.young in
        let q : OfQueue own t now (f ∷ []) = record { names = rw n refl; class = rw (table.same_self own) refl; sizes = rw sizes refl; taken = rw w.taken refl; young = rw young refl } in
        let e = (table.and-true (frame_test own t limits now f) true (queue_passes t limits right own now (f ∷ []) q)).0 in
        by_row n ∙ rw (w.left, e) refl

    mark_passes : names_row t f ≡ false → OfWire t now (Sending f left) → sending_test t limits now f left ≡ true
    mark_passes n w =
        let sizes : size_within (best_size t) f ≡ true = rw (unowned f n) at w.sizes in
        let marks : is_best f ≡ true = rw n at w.names in
        let q : OfBest (best_size t) now (f ∷ []) = record { marks = rw marks refl; sizes = rw sizes refl; taken = rw w.taken refl } in
        let e = (table.and-true (best_test (best_size t) now f) true (best_passes (best_size t) now (f ∷ []) q)).0 in
        by_mark n ∙ rw (w.left, e) refl

  of_wire : (w : Wire) → on_sending (sending_test t limits now) w ≡ true → OfWire t now w
  of_wire Free e = record { names = refl; sizes = refl; left = refl; taken = refl; young = refl }
  of_wire (Sending f left) e = go (names_row t f) refl
    where
      go : (b : Bool) → names_row t f ≡ b → OfWire t now (Sending f left)
      go true n = of_row f left n e
      go false n = of_mark f left n e

  wire_passes : (w : Wire) → OfWire t now w → on_sending (sending_test t limits now) w ≡ true
  wire_passes Free p = refl
  wire_passes (Sending f left) p = go (names_row t f) refl
    where
      go : (b : Bool) → names_row t f ≡ b → sending_test t limits now f left ≡ true
      go true n = row_passes_lem f left n p
      go false n = mark_passes f left n p

-- ---- a record
pub record Passes (limits : List ℕ) (s : State) : Type 0 where
  pub numbers : numbers_test s ≡ true
  pub others : others_test limits s ≡ true
  pub rows : rows_test limits s ≡ true

-- a table that is not accepted
pub refused : (s : State) → table_sound s ≡ false → false ≡ sound s
unfolding sound
refused s e = rw e refl

-- another row count
pub miscounted : (s : State) → table_sound s ≡ true → count_sound s ≡ false → false ≡ sound s
unfolding sound
miscounted s t e = rw (t, e) refl

-- other bounds
pub unbounded : (s : State) → table_sound s ≡ true → count_sound s ≡ true → bounds_sound s ≡ false → false ≡ sound s
unfolding sound
unbounded s t k e = rw (t, k, e) refl

module _ (s : State) (limits : List ℕ) (right : Right s.table limits) where
  abbrev QueueIs : Class → List Frame → Type 0
  QueueIs c q = OfQueue c s.table s.clock q

  -- the tests of the frames, part by part
  record OfFrames : Type 0 where
    a : QueueIs A s.a
    b : QueueIs B s.b
    best : OfBest (best_size s.table) s.clock s.best
    wire : OfWire s.table s.clock s.wire

  of_frames : others_test limits s ≡ true → waiting_test limits s ≡ true → OfFrames
  unfolding others_test waiting_test
  of_frames e f =
      let q = table.and-true (all_of (frame_test A s.table limits s.clock) s.a) (all_of (frame_test B s.table limits s.clock) s.b) f in
      let r = table.and-true (all_of (best_test (best_size s.table) s.clock) s.best) (on_sending (sending_test s.table limits s.clock) s.wire) e in
      record { a = of_queue s.table limits right A _ _ q.0; b = of_queue s.table limits right B _ _ q.1; best = of_best _ _ _ r.0; wire = of_wire s.table limits right _ s.wire r.1 }

  others_pass : OfFrames → others_test limits s ≡ true
  unfolding others_test
  others_pass p = rw (best_passes (best_size s.table) s.clock s.best p.best, wire_passes s.table limits right s.clock s.wire p.wire) refl

  queues_pass : OfFrames → waiting_test limits s ≡ true
  unfolding waiting_test
  queues_pass p = rw (queue_passes s.table limits right A s.clock s.a p.a, queue_passes s.table limits right B s.clock s.b p.b) refl

  -- the clauses of a sound record, part by part
  of_clauses : Clauses s → OfFrames
  unfolding names_sound queues_sound sizes_sound left_sound frames_taken age_sound
  of_clauses c =
      let n = three_true _ _ _ c.names in
      let q = three_true _ _ _ c.queues in
      let z = four_true _ _ _ _ c.sizes in
      let k = four_true _ _ _ _ c.frames in
      let y = three_true _ _ _ c.age in
      record {
        a = record { names = n.0; class = q.0; sizes = z.0; taken = k.0; young = y.0 };
        b = record { names = n.1; class = q.1; sizes = z.1; taken = k.1; young = y.1 };
        best = record { marks = q.2; sizes = z.2; taken = k.2 };
        wire = record { names = n.2; sizes = z.3; left = c.left; taken = k.3; young = y.2 };
      }

  module _ (p : OfFrames) where
    names_hold : names_sound s ≡ true
    unfolding names_sound
    names_hold = rw (p.a.names, p.b.names, p.wire.names) refl

    queues_hold : queues_sound s ≡ true
    unfolding queues_sound
    queues_hold = rw (p.a.class, p.b.class, p.best.marks) refl

    sizes_hold : sizes_sound s ≡ true
    unfolding sizes_sound
    sizes_hold = rw (p.a.sizes, p.b.sizes, p.best.sizes, p.wire.sizes) refl

    left_holds : left_sound s ≡ true
    unfolding left_sound
    left_holds = p.wire.left

    taken_hold : frames_taken s ≡ true
    unfolding frames_taken
    taken_hold = rw (p.a.taken, p.b.taken, p.best.taken, p.wire.taken) refl

    young_hold : age_sound s ≡ true
    unfolding age_sound
    young_hold = rw (p.a.young, p.b.young, p.wire.young) refl

  numbers_hold : numbers_test s ≡ true → (clock_sound s ≡ true) × (credit_sound A s ≡ true) × (credit_sound B s ≡ true)
  unfolding numbers_test
  numbers_hold e =
      let p = table.and-true (clock_sound s) _ e in
      let q = table.and-true (credit_sound A s) (credit_sound B s) p.1 in
      (p.0, q.0, q.1)

  -- the test of each row is that of its count, of the spaces between its frames and of the newest
  abbrev few : ℕ → Bool
  few k = leb (length (taken_of k s)) (most_of s.table (row_at s.table k))

  abbrev spread : ℕ → Bool
  spread k = spaced (period_of (row_at s.table k)) (taken_of k s)

  abbrev latest : ℕ → Bool
  latest k = ends_at (taken_of k s) (get_or s.last k never)

  -- an empty number is not asked
  abbrev if_used : (ℕ → Bool) → ℕ → Bool
  if_used ok k = cond (in_use s.table k) (ok k) true

  module _ (ok : IsAccepted s.table) where
    row_tests : (k : ℕ) → k < length s.table.rows → if_used (held_test s.table limits s.last (sending s.wire ++ (s.a ++ s.b))) k ≡ (if_used few k && (if_used spread k && if_used latest k))
    unfolding held_test instants_test taken_of
    row_tests k h = go (in_use s.table k) refl
      where
        count_same : (n k : ℕ) → InUse s.table k → in_limit n (period_of (row_at s.table k)) (residence s.table (row_at s.table k)) ≡ leb n (most_of s.table (row_at s.table k))
        count_same zero k u = sym (le-leb 0 (most_of s.table (row_at s.table k)) (omega arith))
        count_same (suc n) k u = law.most_periods s.table ok k u n

        go : (b : Bool) → in_use s.table k ≡ b → if_used (held_test s.table limits s.last (sending s.wire ++ (s.a ++ s.b))) k ≡ (if_used few k && (if_used spread k && if_used latest k))
        go true e = let u = table.is_used s.table k e in rw (e, right k u, count_same (length (taken_of k s)) k u) refl
        go false e = rw e refl

    rows_tests : rows_test limits s ≡ (rows_taken s && (waiting_test limits s && (held_sound s && (apart_sound s && latest_sound s))))
    unfolding rows_test held_sound apart_sound latest_sound
    rows_tests =
        rw (up_to_same (length s.table.rows) (if_used (held_test s.table limits s.last (sending s.wire ++ (s.a ++ s.b)))) (λ k. if_used few k && (if_used spread k && if_used latest k)) row_tests, up_to_both (length s.table.rows) (if_used few) (λ k. if_used spread k && if_used latest k), up_to_both (length s.table.rows) (if_used spread) (if_used latest))
        refl

    rows_hold : rows_test limits s ≡ true → (rows_taken s ≡ true) × (waiting_test limits s ≡ true) × (held_sound s ≡ true) × (apart_sound s ≡ true) × (latest_sound s ≡ true)
    rows_hold e =
        let p = table.and-true (rows_taken s) _ (sym rows_tests ∙ e) in
        let f = table.and-true (waiting_test limits s) _ p.1 in
        let q = table.and-true (held_sound s) _ f.1 in
        let r = table.and-true (apart_sound s) (latest_sound s) q.1 in
        (p.0, f.0, q.0, r.0, r.1)

  passes : sound s ≡ true → Passes limits s
  unfolding numbers_test
  passes e =
      let c = clauses s e in
      let f = of_clauses c in
      record { numbers = rw (c.clock, c.credit_a, c.credit_b) refl; others = others_pass f; rows = rows_tests (is_accepted_lem s c) ∙ rw (c.rows, queues_pass f, c.held, c.apart, c.latest) refl }

  passed : table_sound s ≡ true → count_sound s ≡ true → bounds_sound s ≡ true → best_sound s ≡ true → Passes limits s → sound s ≡ true
  unfolding sound
  passed t k d b p =
      let n = numbers_hold p.numbers in
      let r = rows_hold (table_accepted s t) p.rows in
      let f = of_frames p.others r.1 in
      rw (t, k, d, n.0, n.1, n.2, b, names_hold f, queues_hold f, sizes_hold f, left_holds f, taken_hold f, r.0, r.2, r.3, r.4, young_hold f) refl

  -- a record that fails a test is broken
  pub broken : (Passes limits s → ⊥) → false ≡ sound s
  broken fails = same_test_lem false (sound s) (λ e. absurd (false≢true e)) (λ e. absurd (fails (passes e)))

  -- of a record that passes the others, the test of its rows decides
  pub by_rows : table_sound s ≡ true → count_sound s ≡ true → bounds_sound s ≡ true → best_sound s ≡ true → numbers_test s ≡ true → others_test limits s ≡ true → rows_test limits s ≡ sound s
  by_rows t k d b n f = same_test_lem (rows_test limits s) (sound s) (λ r. passed t k d b record { numbers = n; others = f; rows = r }) (λ e. (passes e).rows)
