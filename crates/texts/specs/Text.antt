-- The texts that the programs print, as ASCII bytes: 48 is the digit 0.
use Rattle.std.specs.Prelude.{ℕ, zero, suc, ◌+◌, ◌/◌, ◌%◌, ◌≤◌, Bool, cond, List, [], ◌∷◌, ◌++◌, ◌≡◌, leb, ltb, length, take, drop}
use Prim.Native.Char.{code}
use Prim.Native.String as string
use Prim.Native.String.{String}
use Rattle.texts.specs.declared.text.Answer.{Answer}
use Rattle.texts.specs.declared.text.Answer.TheVariants.{Refused, Passed}

-- The bytes of a text, for texts of ASCII characters.
abbrev pub ascii : String → List ℕ
ascii string.[] = []
ascii (string.◌∷◌ c s) = code c ∷ ascii s

-- The decimal digits of a number that has at most k of them. A number of 64 bits has at most 20.
abbrev pub decimal_by : ℕ → ℕ → List ℕ
decimal_by zero n = []
decimal_by (suc k) n = cond (ltb n 10) ((48 + n) ∷ []) (decimal_by k (n / 10) ++ ((48 + n % 10) ∷ []))

unfoldable pub decimal : ℕ → List ℕ
decimal n = decimal_by 20 n

abbrev pub pair : ℕ → ℕ → List ℕ
pair x y = decimal x ++ ascii " " ++ decimal y ++ ascii "\n"

-- `refused`, number, place; or `0`, byte-times passed, ended frame's row.
abbrev pub line_of : Answer → List ℕ
line_of (Refused number place) = ascii "refused " ++ pair number place
line_of (Passed passed row) = ascii "0 " ++ pair passed row

-- The most bytes that such a line has.
abbrev pub line_size : ℕ
line_size = 50

-- A text behind the first `at` bytes of a buffer, all its other bytes as they were; where it finds no room the buffer stays as it is. And how many bytes are in use then.
abbrev pub has_room : List ℕ → ℕ → List ℕ → Bool
has_room text at buffer = leb (at + length text) (length buffer)

unfoldable pub put_at : List ℕ → ℕ → List ℕ → List ℕ
put_at text at buffer = cond (has_room text at buffer) (take at buffer ++ text ++ drop (at + length text) buffer) buffer

unfoldable pub used_by : List ℕ → ℕ → List ℕ → ℕ
used_by text at buffer = cond (has_room text at buffer) (at + length text) at

-- Of a text that has room: it has at most `most` bytes, and `next` are in use then.
pub record Put (most : ℕ) (text before : List ℕ) (at : ℕ) (after : List ℕ) (next : ℕ) : Type 0 where
  pub few : next ≤ at + most
  pub bytes : take next after ≡ take at before ++ text
  pub long : next ≡ at + length text
