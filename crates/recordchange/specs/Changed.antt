-- What a call writes over bytes, whatever these are. (Of a record with places for it, it is what the whole port, written over them, would change.)
use Rattle.std.specs.Prelude.{ℕ, ◌+◌, ◌*◌, cond, List, [], ◌∷◌, leb, ltb, length, Option, Some, None}
use Rattle.table.specs.Limits.{most_rows, class_places}
use Rattle.machine.specs.declared.Frame.{Frame}
use Rattle.machine.specs.declared.Change.{Change}
use Rattle.machine.specs.declared.Change.TheVariants.{LeftA, LeftB, LeftBest, JoinedA, JoinedB, JoinedBest}
use Rattle.machine.specs.declared.Effect.{Effect}
use Rattle.machine.specs.Limits.{best_places}
use Rattle.machine.specs.State.{at}
use Rattle.machine.specs.Time.{behind_head}
use Rattle.words.specs.Words.{word_at, stored}
use Rattle.recordbytes.specs.Layout.{clock_start, queuea_start, queueb_start, best_start, last_start, wire_start, frame_width, last_width, record_size}
use Rattle.recordbytes.specs.Record.{signed_word, frame_words, last_words, wire_words, queue_at, queue_over}

-- The queue whose count is the word of number k, without its head, and with a frame behind the others. One with more frames than places, or none left for a frame, stays as it is.
abbrev pub left_over : ℕ → ℕ → List ℕ → List ℕ
left_over k places s = cond (leb (word_at s k) places) (queue_over k places (behind_head (queue_at s k)) s) s

abbrev pub joined_over : ℕ → ℕ → Frame → List ℕ → List ℕ
joined_over k places f s = cond (ltb (word_at s k) places) (stored (stored s k ((word_at s k + 1) ∷ [])) (k + 1 + frame_width * word_at s k) (frame_words f)) s

-- The last instant of a frame's row, if it has a place.
abbrev pub noted_over : Frame → List ℕ → List ℕ
noted_over f s = cond (ltb f.source most_rows) (stored s (last_start + last_width * f.source) (last_words (at f.taken))) s

abbrev pub changed_over : Option Change → List ℕ → List ℕ
changed_over None s = s
changed_over (Some LeftA) s = left_over queuea_start class_places s
changed_over (Some LeftB) s = left_over queueb_start class_places s
changed_over (Some LeftBest) s = left_over best_start best_places s
changed_over (Some (JoinedA f)) s = noted_over f (joined_over queuea_start class_places f s)
changed_over (Some (JoinedB f)) s = noted_over f (joined_over queueb_start class_places f s)
changed_over (Some (JoinedBest f)) s = joined_over best_start best_places f s

-- Bytes with the clock and the credits, the queue, and the wire of an effect. Too few for a record stay as they are.
abbrev pub numbers_over : Effect → List ℕ → List ℕ
numbers_over e s = stored s clock_start (e.clock ∷ signed_word e.credita ∷ signed_word e.creditb ∷ [])

abbrev pub effect_over : Effect → List ℕ → List ℕ
effect_over e s = cond (leb record_size (length s)) (stored (changed_over e.change (numbers_over e s)) wire_start (wire_words e.wire)) s
