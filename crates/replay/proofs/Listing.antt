-- A list of calls: which is the first that can't be read, and where each answer goes.
use Prim.Native.Nat.{ℕ, zero, suc, ◌+◌, ◌-◌, ◌*◌, ◌≤◌, ◌<◌}
use Rattle.std.specs.Prelude.{Option, Some, None}
use Rattle.std.specs.List.{find, range_with_len}
use mathlib.Core.Bool.{Bool, true, false, cond, true≢false}
use mathlib.Core.List.{List, ◌++◌, append-nil, append_assoc}
use mathlib.Core.Path.{◌≡◌, refl, sym, ◌∙◌, ap}
use native.Mathlib.Nat.{add-zero, zero-add}
use native.Mathlib.Numerals.{add-one}
use native.Mathlib.Omega.{arith}
use lib.ListN.{length, take, drop, length-append, length-take, length-drop}
use lib.Seq.{take_at, drop_at, take_all, drop-length, drop-drop}
use Rattle.table.specs.Rows.{Contents}
use Rattle.table.specs.Checks.{accepted, over}
use Rattle.machine.specs.declared.Port.{Port}
use Rattle.machine.specs.State.{fresh, view}
use Rattle.machine.specs.Calls.{Answer, answer, after}
use Rattle.machine.specs.Run.{machine, answered}
use Rattle.callbytes.specs.declared.Asked.{Asked}
use Rattle.callbytes.specs.Calls.{call_of, call_or_none, answer_size, answer_bytes, fronted}
use Rattle.callbytes.proofs.Laws.{answer_length, answer_fits}
use Rattle.replay.specs.List.{asked_at, call_at, is_unreadable, first_unreadable, count_of, calls_of, events_of, answers_of}

-- ---- where no number's test says yes, that of each does not
none_found : (test : ℕ → Bool) (n a : ℕ) → find test (range_with_len a n) ≡ None → (k : ℕ) → k < n → test (a + k) ≡ false
none_found test zero a e k h = absurd (omega arith)
none_found test (suc n) a e zero h = rw (add-zero a) (head (test a) e)
  where
    head : (b : Bool) → cond b (Some a) (find test (range_with_len (a + 1) n)) ≡ None → b ≡ false
    head true e = cc
    head false e = refl
none_found test (suc n) a e (suc k) h =
    let z : a + suc k ≡ a + 1 + k = omega arith in
    rw z (none_found test n (a + 1) (tail (test a) e) k (omega arith))
  where
    tail : (b : Bool) → cond b (Some a) (find test (range_with_len (a + 1) n)) ≡ None → find test (range_with_len (a + 1) n) ≡ None
    tail true e = cc
    tail false e = e

-- of a list in which all can be read no call is missing
pub none_missing : (s : List ℕ) (n i : ℕ) → first_unreadable s n ≡ None → i < n → asked_at s i ≡ None → ⊥
none_missing s n i e h f =
    let there = none_found (is_unreadable s) n 0 e i h in
    true≢false (rw (zero-add, f) at there)

pub called_at : (s : List ℕ) (i : ℕ) (a : Asked) {o : Option Asked} → o ≡ asked_at s i → o ≡ Some a → call_of a ≡ call_at s i
called_at s i a e f = ap call_or_none (sym f ∙ e)

-- ---- the answers, one behind the other
answers_length : (t : Contents) (s : List ℕ) (n : ℕ) → length (answers_of (answered t (calls_of s n))) ≡ answer_size * n
unfolding calls_of
answers_length t s zero = refl
answers_length t s (suc n) =
    let es = answered t (calls_of s n) in
    let a = answer (machine t es) (call_at s n) in
    length-append (answers_of es) (answer_bytes a) ∙ omega (arith, answers_length t s n, answer_length a)

-- a part behind some bytes, written anew at its front
behind : (a r ys : List ℕ) (n : ℕ) → length a ≡ n → take n (a ++ r) ++ (ys ++ drop (length (a ++ r) - n) (drop n (a ++ r))) ≡ a ++ ys
behind a r ys n e =
    let z : length (a ++ r) - n ≡ length r = rw length-append (omega (arith, e)) in
    rw (take_at a r n e, drop_at a r n e, z, drop-length r, append-nil) refl

part : (a r : List ℕ) (n : ℕ) → length a ≡ n → take (length (a ++ r) - n) (drop n (a ++ r)) ≡ r
part a r n e =
    let z : length (a ++ r) - n ≡ length r = rw length-append (omega (arith, e)) in
    rw (drop_at a r n e, z) (take_all (length r) r (omega arith))

-- ---- a part of a buffer that holds an answer, and the buffer with it
pub room : (xs : List ℕ) (i n : ℕ) → i < n → answer_size * n ≤ length xs → answer_size ≤ length (take (length xs - answer_size * i) (drop (answer_size * i) xs))
room xs i n h l = rw (length-take, length-drop) (omega arith)

pub same_size : (xs : List ℕ) (at : ℕ) (a : Answer) (ys : List ℕ) → answer_size ≤ length (take (length xs - at) (drop at xs)) → ys ≡ fronted (answer_bytes a) (take (length xs - at) (drop at xs)) → length (take at xs ++ (ys ++ drop (length xs - at) (drop at xs))) ≡ length xs
same_size xs at a ys h w =
    let part = take (length xs - at) (drop at xs) in
    let l : length ys ≡ length part = ap length (w ∙ answer_fits a part h) ∙ length-append (answer_bytes a) (drop answer_size part) ∙ rw (answer_length a, length-drop) (omega arith) in
    let e = drop (length xs - at) (drop at xs) in
    length-append (take at xs) (ys ++ e) ∙ omega (arith, l, length-append ys e, length-take at xs, length-drop at xs, length-take (length xs - at) (drop at xs), length-drop (length xs - at) (drop at xs))

-- ---- the calls so far: the machine's port, and the answers in the buffer
pub record Sofar (t : Contents) (calls before : List ℕ) (i : ℕ) (p : Port) (now : List ℕ) : Type 0 where
  pub port : view p ≡ machine t (answered t (calls_of calls i))
  pub bytes : now ≡ answers_of (answered t (calls_of calls i)) ++ drop (answer_size * i) before

pub begins : (t : Contents) (calls before : List ℕ) (p : Port) → view p ≡ fresh t → Sofar t calls before 0 p before
unfolding calls_of
begins t calls before p e = record { port = e; bytes = refl }

pub goes_on : (t : Contents) (calls before : List ℕ) (i : ℕ) (p q : Port) (a : Answer) (now ys : List ℕ) → answer_size ≤ length (take (length now - answer_size * i) (drop (answer_size * i) now)) → Sofar t calls before i p now → a ≡ answer (view p) (call_at calls i) → view q ≡ after (view p) (call_at calls i) → ys ≡ fronted (answer_bytes a) (take (length now - answer_size * i) (drop (answer_size * i) now)) → Sofar t calls before (i + 1) q (take (answer_size * i) now ++ (ys ++ drop (length now - answer_size * i) (drop (answer_size * i) now)))
unfolding calls_of
goes_on t calls before i p q a now ys h f e g w =
    let es = answered t (calls_of calls i) in
    let is : a ≡ answer (machine t es) (call_at calls i) = rw f.port at e in
    let part = take (length now - answer_size * i) (drop (answer_size * i) now) in
    record {
      port = rw (add-one, ← f.port) g;
      bytes = rw (add-one, ← is) (placed (answers_of es) (answer_bytes a) now (answers_length t calls i) f.bytes (w ∙ answer_fits a part h));
    }
  where
    placed : (w a now : List ℕ) → length w ≡ answer_size * i → now ≡ w ++ drop (answer_size * i) before → ys ≡ a ++ drop answer_size (take (length now - answer_size * i) (drop (answer_size * i) now)) → take (answer_size * i) now ++ (ys ++ drop (length now - answer_size * i) (drop (answer_size * i) now)) ≡ (w ++ a) ++ drop (answer_size * suc i) before
    placed w a now l e y =
        let r = drop (answer_size * i) before in
        let z : answer_size * i + answer_size ≡ answer_size * suc i = omega arith in
        let tail : ys ≡ a ++ drop (answer_size * suc i) before = y ∙ rw (e, part w r (answer_size * i) l, drop-drop answer_size (answer_size * i) before, z) refl in
        let whole : take (answer_size * i) now ++ (ys ++ drop (length now - answer_size * i) (drop (answer_size * i) now)) ≡ w ++ ys = rw e (behind w r ys (answer_size * i) l) in
        let joined : w ++ ys ≡ (w ++ a) ++ drop (answer_size * suc i) before = rw tail (sym (append_assoc w a (drop (answer_size * suc i) before))) in
        whole ∙ joined

pub all_done : (t : Contents) (calls before : List ℕ) (i : ℕ) (p : Port) (now : List ℕ) → i ≡ count_of calls → Sofar t calls before i p now → now ≡ over accepted (answers_of (events_of t calls)) before
all_done t calls before i p now e f = rw (answers_length t calls (count_of calls), ← e) f.bytes
