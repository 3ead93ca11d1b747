-- A call and its bytes, an answer and its bytes: each way undoes the other.
use Rattle.std.specs.Prelude.{Option, Some, None}
use Prim.Native.Nat.{ℕ, ◌*◌}
use mathlib.Core.Bool.{Bool, true, false, cond, ◌&&◌}
use mathlib.Core.List.{List, [], ◌∷◌}
use mathlib.Core.Path.{◌≡◌, refl, sym, ◌∙◌, ap}
use native.Mathlib.Omega.{arith}
use lib.Dec.{eqb}
use lib.ListN.{length}
use borrow.Author.Tests.{eq-eqb, ne_eqb, eqb-true}
use Rattle.table.proofs.Laws.{and-true}
use Rattle.machine.specs.declared.Frame.{Frame}
use Rattle.machine.specs.Limits.{no_mark}
use Rattle.machine.specs.Calls.{Call, offer, offer_best, advance, join, leave, Answer, taken, passed, denied, answer}
use Rattle.machine.proofs.Within.{DenialWithin, OfferWithin, AdvanceWithin, AnswerWithin, answer_within}
use Rattle.words.specs.Words.{Every, Word, flat, word_bytes, word_at}
use Rattle.words.proofs.Laws.{bytes_length, held_whole, whole_held}
use Rattle.callbytes.specs.declared.Asked.{Asked}
use Rattle.callbytes.specs.Calls.{call_size, call_words, call_bytes, CallFits, named, call_of, call_or_none, used_by, zeros_from, ended, read_call, answer_size, answer_words, answer_bytes, says, no_answer, plain_said, taken_said, passed_said, done_said, said, read_answer}
use Rattle.callbytes.specs.RoundTrip.{ReadingWrittenCalls, ReadCallsFit, WritingReadCalls, ReadingWrittenAnswers, WritingReadAnswers}
use Rattle.callbytes.proofs.Named.{rest_zero}
use Rattle.callbytes.proofs.Held.{call_width_lem, call_words_lem, asked_of, asked_call, call_back, call_same, call_small}

-- ---- calls
pub reading_written_calls : ReadingWrittenCalls
unfolding call_bytes
reading_written_calls c f =
    let s = flat word_bytes (call_words c) in
    let p = call_back s c f (held_whole (call_words c) (call_words_lem c f)) in
    let long : length s ≡ call_size = bytes_length (call_words c) ∙ rw (call_width_lem c) refl in
    let e : Some (asked_of c) ≡ read_call s = rest_zero s (asked_of c) long p.0 p.1 in
    rw (← e) (asked_call c)

-- what is read is long enough, named by the words, and has zeros behind them
record Whole (s : List ℕ) (a : Asked) : Type 0 where
  long : length s ≡ call_size
  named : named s ≡ Some a
  rest : zeros_from s (used_by a) ≡ true

whole_lem : (s : List ℕ) (a : Asked) → read_call s ≡ Some a → Whole s a
unfolding read_call
whole_lem s a = go (eqb (length s) call_size) refl
  where
    rests : (b : Asked) (z : Bool) → zeros_from s (used_by b) ≡ z → length s ≡ call_size → named s ≡ Some b → cond z (Some b) None ≡ Some a → Whole s a
    rests b true q long n e = let same : b ≡ a = cc in record { long = long; named = rw same at n; rest = rw same at q }
    rests b false q long n e = cc

    known : (o : Option Asked) → named s ≡ o → length s ≡ call_size → ended s o ≡ Some a → Whole s a
    known (Some b) n long e = rests b (zeros_from s (used_by b)) refl long n e
    known None n long e = cc

    go : (x : Bool) → eqb (length s) call_size ≡ x → cond x (ended s (named s)) None ≡ Some a → Whole s a
    go true q e = known (named s) refl (eqb-true (length s) call_size q) e
    go false q e = cc

pub writing_read_calls : WritingReadCalls
unfolding call_bytes
writing_read_calls s a b e =
    let w = whole_lem s a e in
    let ws = call_words (call_of a) in
    let long : length s ≡ 8 * length ws = w.long ∙ rw (call_width_lem (call_of a)) refl in
    whole_held s b ws long (call_same s a w.named w.rest)

pub read_calls_fit : ReadCallsFit
read_calls_fit s b = go (read_call s) refl
  where
    go : (o : Option Asked) → read_call s ≡ o → CallFits (call_or_none o)
    go (Some a) e = call_small s b a (whole_lem s a e).named
    go None e = omega arith

-- ---- answers: reading what was written
read_answer_lem : (c : Call) (n second source size instant : ℕ) → Every Word (n ∷ second ∷ source ∷ size ∷ instant ∷ []) → read_answer c (flat word_bytes (n ∷ second ∷ source ∷ size ∷ instant ∷ [])) ≡ said c n second source size instant
unfolding read_answer
read_answer_lem c n second source size instant f =
    let ws = n ∷ second ∷ source ∷ size ∷ instant ∷ [] in
    let h = held_whole ws f in
    rw (eq-eqb (length (flat word_bytes ws)) answer_size (bytes_length ws), h.0, h.1.0, h.1.1.0, h.1.1.1.0, h.1.1.1.1.0) refl

denied_back : (c : Call) (n place : ℕ) → DenialWithin n place → read_answer c (answer_bytes (denied n place)) ≡ says (denied n place)
unfolding answer_bytes
denied_back c n place d = read_answer_lem c n place no_mark 0 0 (omega (arith, d.most, d.within)) ∙ rw (ne_eqb n 0 (λ z. omega (arith, d.some))) refl

offer_back : (c : Call) → ((second source size instant : ℕ) → done_said c second source size instant ≡ taken_said second source size instant) → (a : Answer) → OfferWithin a → read_answer c (answer_bytes a) ≡ says a
unfolding answer_bytes
offer_back c is taken f = read_answer_lem c 0 0 no_mark 0 0 (omega arith) ∙ is 0 no_mark 0 0
offer_back c is (passed n e) f = absurd f
offer_back c is (denied n place) f = denied_back c n place f

advance_back : (m : ℕ) (a : Answer) → AdvanceWithin a → read_answer (advance m) (answer_bytes a) ≡ says a
unfolding answer_bytes
advance_back m taken f = absurd f
advance_back m (passed n (Some g)) f =
    read_answer_lem (advance m) 0 n g.source g.size g.taken (omega (arith, f.0, f.1.source, f.1.size, f.1.taken)) ∙ rw (ne_eqb g.source no_mark (λ z. omega (arith, f.1.source))) refl
advance_back m (passed n None) f = read_answer_lem (advance m) 0 n no_mark 0 0 (omega (arith, f.0))
advance_back m (denied n place) f = denied_back (advance m) n place f

answer_back : (c : Call) (a : Answer) → AnswerWithin c a → read_answer c (answer_bytes a) ≡ says a
answer_back (offer row payload) a f = offer_back (offer row payload) (λ second source size instant. refl) a f
answer_back (offer_best payload) a f = offer_back (offer_best payload) (λ second source size instant. refl) a f
answer_back (advance m) a f = advance_back m a f
answer_back (join number r) a f = offer_back (join number r) (λ second source size instant. refl) a f
answer_back (leave number) a f = offer_back (leave number) (λ second source size instant. refl) a f

pub reading_written_answers : ReadingWrittenAnswers
reading_written_answers p c = answer_back c (answer p c) (answer_within p c)

-- ---- writing what was read: the words that an answer was read from are its words
plain_words : (a b : Answer) (n second source size instant : ℕ) → answer_words a ≡ n ∷ second ∷ no_mark ∷ 0 ∷ 0 ∷ [] → plain_said a source size instant ≡ says b → answer_words b ≡ n ∷ second ∷ source ∷ size ∷ instant ∷ []
plain_words a b n second source size instant w = go (eqb source no_mark && (eqb size 0 && eqb instant 0)) refl
  where
    go : (x : Bool) → (eqb source no_mark && (eqb size 0 && eqb instant 0)) ≡ x → cond x (says a) no_answer ≡ says b → answer_words b ≡ n ∷ second ∷ source ∷ size ∷ instant ∷ []
    go true q e =
        let same : a ≡ b = cc in
        let p = and-true (eqb source no_mark) (eqb size 0 && eqb instant 0) q in
        let back = and-true (eqb size 0) (eqb instant 0) p.1 in
        ap answer_words (sym same) ∙ w ∙ rw (eqb-true source no_mark p.0, eqb-true size 0 back.0, eqb-true instant 0 back.1) refl
    go false q e = let z : ◌≡◌ {A = ℕ} 0 1 = cc in absurd (omega arith)

taken_words : (b : Answer) (second source size instant : ℕ) → taken_said second source size instant ≡ says b → answer_words b ≡ 0 ∷ second ∷ source ∷ size ∷ instant ∷ []
taken_words b second source size instant = go (eqb second 0) refl
  where
    go : (x : Bool) → eqb second 0 ≡ x → cond x (plain_said taken source size instant) no_answer ≡ says b → answer_words b ≡ 0 ∷ second ∷ source ∷ size ∷ instant ∷ []
    go true q e = rw (eqb-true second 0 q) (plain_words taken b 0 0 source size instant refl e)
    go false q e = let z : ◌≡◌ {A = ℕ} 0 1 = cc in absurd (omega arith)

passed_words : (b : Answer) (count source size instant : ℕ) → passed_said count source size instant ≡ says b → answer_words b ≡ 0 ∷ count ∷ source ∷ size ∷ instant ∷ []
passed_words b count source size instant = go (eqb source no_mark) (eqb size 0 && eqb instant 0) refl refl
  where
    ended : Option Frame
    ended = Some (record { source = source; size = size; taken = instant })

    go : (x y : Bool) → eqb source no_mark ≡ x → (eqb size 0 && eqb instant 0) ≡ y → cond x (cond y (says (passed count None)) no_answer) (says (passed count ended)) ≡ says b → answer_words b ≡ 0 ∷ count ∷ source ∷ size ∷ instant ∷ []
    go true true qx qy e =
        let same : passed count None ≡ b = cc in
        let none = and-true (eqb size 0) (eqb instant 0) qy in
        ap answer_words (sym same) ∙ rw (eqb-true source no_mark qx, eqb-true size 0 none.0, eqb-true instant 0 none.1) refl
    go true false qx qy e = let z : ◌≡◌ {A = ℕ} 0 1 = cc in absurd (omega arith)
    go false y qx qy e = let same : passed count ended ≡ b = cc in ap answer_words (sym same)

done_words : (c : Call) (b : Answer) (second source size instant : ℕ) → done_said c second source size instant ≡ says b → answer_words b ≡ 0 ∷ second ∷ source ∷ size ∷ instant ∷ []
done_words (offer row payload) b second source size instant e = taken_words b second source size instant e
done_words (offer_best payload) b second source size instant e = taken_words b second source size instant e
done_words (advance n) b second source size instant e = passed_words b second source size instant e
done_words (join number r) b second source size instant e = taken_words b second source size instant e
done_words (leave number) b second source size instant e = taken_words b second source size instant e

answer_words_lem : (c : Call) (b : Answer) (n second source size instant : ℕ) → said c n second source size instant ≡ says b → answer_words b ≡ n ∷ second ∷ source ∷ size ∷ instant ∷ []
answer_words_lem c b n second source size instant = go (eqb n 0) refl
  where
    go : (x : Bool) → eqb n 0 ≡ x → cond x (done_said c second source size instant) (plain_said (denied n second) source size instant) ≡ says b → answer_words b ≡ n ∷ second ∷ source ∷ size ∷ instant ∷ []
    go true q e = rw (eqb-true n 0 q) (done_words c b second source size instant e)
    go false q e = plain_words (denied n second) b n second source size instant refl e

pub writing_read_answers : WritingReadAnswers
unfolding read_answer answer_bytes
writing_read_answers c a s b = go (eqb (length s) answer_size) refl
  where
    go : (x : Bool) → eqb (length s) answer_size ≡ x → cond x (said c (word_at s 0) (word_at s 1) (word_at s 2) (word_at s 3) (word_at s 4)) no_answer ≡ says a → flat word_bytes (answer_words a) ≡ s
    go true q e =
        ap (flat word_bytes) (answer_words_lem c a (word_at s 0) (word_at s 1) (word_at s 2) (word_at s 3) (word_at s 4) e) ∙ whole_held s b (word_at s 0 ∷ word_at s 1 ∷ word_at s 2 ∷ word_at s 3 ∷ word_at s 4 ∷ []) (eqb-true (length s) answer_size q) (refl, (refl, (refl, (refl, (refl, tt)))))
    go false q e = let z : ◌≡◌ {A = ℕ} 0 1 = cc in absurd (omega arith)
