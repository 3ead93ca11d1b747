-- The lines that `portrun` reads: `o ROW PAYLOAD`, `b PAYLOAD`, `a N`. Bytes are ASCII: 10 ends a line, 32 is a space, 48 to 57 are the digits.
use Rattle.std.specs.Prelude.{ℕ, ◌+◌, ◌-◌, ◌*◌, min, Bool, cond, ◌&&◌, leb, eqb}
use Rattle.texts.specs.declared.lines.Call.TheVariants as calls
use Rattle.texts.specs.declared.lines.Wanted.{Wanted}
use Rattle.texts.specs.declared.lines.Wanted.TheVariants.{Row, Payload, Best, Count}
use Rattle.texts.specs.declared.lines.Line.{Line}
use Rattle.texts.specs.declared.lines.Line.TheVariants.{Empty, Letter, Space, Digits}
use Rattle.texts.specs.declared.lines.Stepped.{Stepped}
use Rattle.texts.specs.declared.lines.Stepped.TheVariants.{More, Whole, Other}

abbrev pub is_digit : ℕ → Bool
is_digit b = leb 48 b && leb b 57

-- A number with one more digit, or the largest number of 64 bits.
abbrev pub grown : ℕ → ℕ → ℕ
grown n d = min (10 * n + d) 18446744073709551615

abbrev pub letter_of : ℕ → Stepped
letter_of b = cond (eqb b 111) (More (Letter Row)) (cond (eqb b 98) (More (Letter Best)) (cond (eqb b 97) (More (Letter Count)) Other))

abbrev pub space_of : Wanted → ℕ → Stepped
space_of k b = cond (eqb b 32) (More (Space k)) Other

abbrev pub digit_of : Wanted → ℕ → ℕ → Stepped
digit_of k n b = More (Digits k (grown n (b - 48)))

abbrev pub first_digit_of : Wanted → ℕ → Stepped
first_digit_of k b = cond (is_digit b) (digit_of k 0 b) Other

abbrev pub spaced_of : Wanted → ℕ → Stepped
spaced_of Row n = More (Space (Payload n))
spaced_of (Payload row) n = Other
spaced_of Best n = Other
spaced_of Count n = Other

abbrev pub ended_of : Wanted → ℕ → Stepped
ended_of Row n = Other
ended_of (Payload row) n = Whole (calls.Offer row n)
ended_of Best n = Whole (calls.Best n)
ended_of Count n = Whole (calls.Advance n)

abbrev pub in_number_of : Wanted → ℕ → ℕ → Stepped
in_number_of k n b = cond (is_digit b) (digit_of k n b) (cond (eqb b 32) (spaced_of k n) (cond (eqb b 10) (ended_of k n) Other))

-- What a byte makes of a line.
abbrev pub step_of : Line → ℕ → Stepped
step_of Empty b = letter_of b
step_of (Letter k) b = space_of k b
step_of (Space k) b = first_digit_of k b
step_of (Digits k n) b = in_number_of k n b
