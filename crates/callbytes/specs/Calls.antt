-- A call and its answer as words.
use Rattle.std.specs.Prelude.{ℕ, zero, suc, ◌+◌, ◌-◌, ◌*◌, Bool, true, false, cond, ◌&&◌, List, [], ◌∷◌, ◌++◌, leb, eqb, length, drop, replicate, Option, Some, None}
use Rattle.machine.specs.declared.Frame.{Frame}
use Rattle.machine.specs.Limits.{no_mark}
use Rattle.machine.specs.Calls.{Call, offer, offer_best, advance, join, leave, Answer, taken, passed, denied}
use Rattle.callbytes.specs.declared.Asked.{Asked}
use Rattle.callbytes.specs.declared.Asked.TheVariants.{Offer, OfferBest, Advance, Join, Leave}
use Rattle.words.specs.Words.{Word, flat, word_bytes, word_at}
use Rattle.rowbytes.specs.Row.{row_words, row_at, row_fits}
use Rattle.rowbytes.specs.Fits.{RowFits}

-- The words and the bytes of a call, the bytes of an answer, and the first word of a row that joins.
abbrev pub call_width : ℕ
call_width = 9

abbrev pub call_size : ℕ
call_size = 8 * call_width

abbrev pub answer_size : ℕ
answer_size = 40

abbrev pub row_start : ℕ
row_start = 2

-- The words that a call uses. 0, row, payload is an offer to a row; 1, payload an offer of best effort; 2, n an advance by n; 3, number and the row's words a join; 4, number a leave.
abbrev pub used_words : Call → List ℕ
used_words (offer row payload) = 0 ∷ row ∷ payload ∷ []
used_words (offer_best payload) = 1 ∷ payload ∷ []
used_words (advance n) = 2 ∷ n ∷ []
used_words (join number r) = 3 ∷ number ∷ row_words r
used_words (leave number) = 4 ∷ number ∷ []

-- A call: 9 words. Those that it does not use are 0.
unfoldable pub call_words : Call → List ℕ
call_words c = used_words c ++ replicate (call_width - length (used_words c)) 0

unfoldable pub call_bytes : Call → List ℕ
call_bytes c = flat word_bytes (call_words c)

-- The calls that words can hold.
abbrev pub CallFits : Call → Type 0
CallFits (offer row payload) = Word row × Word payload
CallFits (offer_best payload) = Word payload
CallFits (advance n) = Word n
CallFits (join number r) = Word number × RowFits r
CallFits (leave number) = Word number

-- The call that words name, whatever stands behind the last that it uses. A row whose words do not fit their fields can't be read.
abbrev pub join_by : List ℕ → ℕ → Option Asked
join_by s number = cond (row_fits s row_start) (Some (Join number (row_at s row_start))) None

abbrev pub call_by : (kind : ℕ) → List ℕ → Option Asked
call_by kind s =
    cond (eqb kind 0) (Some (Offer (word_at s 1) (word_at s 2)))
    (cond (eqb kind 1) (Some (OfferBest (word_at s 1))) (cond (eqb kind 2) (Some (Advance (word_at s 1))) (cond (eqb kind 3) (join_by s (word_at s 1)) (cond (eqb kind 4) (Some (Leave (word_at s 1))) None))))

unfoldable pub named : List ℕ → Option Asked
named s = call_by (word_at s 0) s

abbrev pub call_of : Asked → Call
call_of (Offer row payload) = offer row payload
call_of (OfferBest payload) = offer_best payload
call_of (Advance n) = advance n
call_of (Join number r) = join number r
call_of (Leave number) = leave number

-- An advance by 0 stands for a call that can't be read. The calls that C links refuse such a call, and make none.
abbrev pub call_or_none : Option Asked → Call
call_or_none (Some a) = call_of a
call_or_none None = advance 0

-- How many words a call uses.
abbrev pub used_by : Asked → ℕ
used_by a = length (used_words (call_of a))

-- Whether n words from that of number k on are 0, and whether all of them are.
unfoldable pub zeros : List ℕ → ℕ → ℕ → Bool
zeros s k zero = true
zeros s k (suc n) = eqb (word_at s k) 0 && zeros s (k + 1) n

abbrev pub zeros_from : List ℕ → ℕ → Bool
zeros_from s k = zeros s k (call_width - k)

-- A call that words name, if zeros stand behind those that it uses.
abbrev pub ended : List ℕ → Option Asked → Option Asked
ended s (Some a) = cond (zeros_from s (used_by a)) (Some a) None
ended s None = None

-- What bytes ask for: 9 words that name a call, with zeros behind those that it uses; or nothing.
unfoldable pub read_call : List ℕ → Option Asked
read_call s = cond (eqb (length s) call_size) (ended s (named s)) None

-- An answer: 5 words. The refusal's number, or 0; its place, or the byte-times passed; the ended frame's source, size and instant taken, or 33, 0, 0 for none.
abbrev pub ended_words : Option Frame → List ℕ
ended_words (Some f) = f.source ∷ f.size ∷ f.taken ∷ []
ended_words None = no_mark ∷ 0 ∷ 0 ∷ []

abbrev pub answer_words : Answer → List ℕ
answer_words taken = 0 ∷ 0 ∷ no_mark ∷ 0 ∷ 0 ∷ []
answer_words (passed n e) = 0 ∷ n ∷ ended_words e
answer_words (denied number place) = number ∷ place ∷ no_mark ∷ 0 ∷ 0 ∷ []

unfoldable pub answer_bytes : Answer → List ℕ
answer_bytes a = flat word_bytes (answer_words a)

-- What bytes say as the answer to a call: an answer, or none.
pub data Said : Type 0 where
  says : Answer → Said
  no_answer : Said

-- 33, 0, 0 stands behind a refusal, and behind the zeros of a call that is taken.
abbrev pub plain_said : Answer → (source size instant : ℕ) → Said
plain_said a source size instant = cond (eqb source no_mark && (eqb size 0 && eqb instant 0)) (says a) no_answer

abbrev pub taken_said : (second source size instant : ℕ) → Said
taken_said second source size instant = cond (eqb second 0) (plain_said taken source size instant) no_answer

-- Byte-times passed, and a frame; 33, 0, 0 is none, and 33 before other numbers is no frame.
abbrev pub passed_said : (count source size instant : ℕ) → Said
passed_said count source size instant = cond (eqb source no_mark) (cond (eqb size 0 && eqb instant 0) (says (passed count None)) no_answer) (says (passed count (Some (record { source = source; size = size; taken = instant }))))

-- What is no refusal goes by the call: a taken offer has the words of an advance in which no byte-time passed and no frame ended.
abbrev pub done_said : Call → (second source size instant : ℕ) → Said
done_said (offer row payload) second source size instant = taken_said second source size instant
done_said (offer_best payload) second source size instant = taken_said second source size instant
done_said (advance n) second source size instant = passed_said second source size instant
done_said (join number r) second source size instant = taken_said second source size instant
done_said (leave number) second source size instant = taken_said second source size instant

abbrev pub said : Call → (number second source size instant : ℕ) → Said
said c number second source size instant = cond (eqb number 0) (done_said c second source size instant) (plain_said (denied number second) source size instant)

unfoldable pub read_answer : Call → List ℕ → Said
read_answer c s = cond (eqb (length s) answer_size) (said c (word_at s 0) (word_at s 1) (word_at s 2) (word_at s 3) (word_at s 4)) no_answer

-- Bytes at the front of a buffer, and its own bytes behind them; a buffer that is too short keeps every byte.
unfoldable pub fronted : List ℕ → List ℕ → List ℕ
fronted bytes buffer = cond (leb (length bytes) (length buffer)) (bytes ++ drop (length bytes) buffer) buffer

abbrev pub is_denied : Answer → Bool
is_denied taken = false
is_denied (passed n e) = false
is_denied (denied number place) = true
