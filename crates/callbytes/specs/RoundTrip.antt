-- Reading and writing calls and answers undo each other: the theorems' statements.
use Rattle.std.specs.Prelude.{ℕ, List, ◌≡◌, Option, Some, None}
use Rattle.machine.specs.State.{State}
use Rattle.machine.specs.Calls.{Call, Answer, answer}
use Rattle.words.specs.Words.{Bytes}
use Rattle.callbytes.specs.declared.Asked.{Asked}
use Rattle.callbytes.specs.Calls.{call_bytes, CallFits, read_call, call_of, call_or_none, answer_bytes, says, read_answer}

-- What was read is the call again.
abbrev pub ReadBack : Call → Option Asked → Type 0
ReadBack c (Some a) = call_of a ≡ c
ReadBack c None = ⊥

-- Reading what was written gives the call: so for every call whose numbers fit.
abbrev pub ReadingWrittenCalls : Type 0
ReadingWrittenCalls = (c : Call) → CallFits c → ReadBack c (read_call (call_bytes c))

-- The call that bytes name fits: so the calls that bytes hold are exactly those that fit.
abbrev pub ReadCallsFit : Type 0
ReadCallsFit = (s : List ℕ) → Bytes s → CallFits (call_or_none (read_call s))

-- Writing what was read gives the bytes, to the last: so for every list of bytes that can be read.
abbrev pub WritingReadCalls : Type 0
WritingReadCalls = (s : List ℕ) (a : Asked) → Bytes s → read_call s ≡ Some a → call_bytes (call_of a) ≡ s

-- Reading what was written gives the answer: so for every port, sound or broken, and every call.
abbrev pub ReadingWrittenAnswers : Type 0
ReadingWrittenAnswers = (p : State) (c : Call) → read_answer c (answer_bytes (answer p c)) ≡ says (answer p c)

-- Writing what was read gives the bytes, to the last: so for every list of bytes that names an answer to a call.
abbrev pub WritingReadAnswers : Type 0
WritingReadAnswers = (c : Call) (a : Answer) (s : List ℕ) → Bytes s → read_answer c s ≡ says a → answer_bytes a ≡ s
