-- The forms of a line: `o ROW PAYLOAD`, `b PAYLOAD`, `a N`, with single spaces and decimal numbers of any length.
use Rattle.std.specs.Prelude.{ℕ, ◌+◌, ◌-◌, ◌*◌, min, true, false, List, [], ◌∷◌, ◌++◌, ◌≡◌}
use Rattle.texts.specs.declared.lines.Call.{Call}
use Rattle.texts.specs.declared.lines.Call.TheVariants.{Offer, Best, Advance}
use Rattle.texts.specs.Lines.{is_digit}
use Rattle.runs.specs.Runs.{Told}

-- Digits, one at least.
pub data Number : List ℕ → Type 0 where
  digit : {b : ℕ} → is_digit b ≡ true → Number (b ∷ [])
  more : {b : ℕ} {bs : List ℕ} → is_digit b ≡ true → Number bs → Number (b ∷ bs)

-- The number that digits state, behind others that state n.
abbrev pub value_from : ℕ → List ℕ → ℕ
value_from n [] = n
value_from n (b ∷ bs) = value_from (10 * n + (b - 48)) bs

-- One that is too large for 64 bits counts as the largest there is: every rule refuses both alike.
abbrev pub stated : List ℕ → ℕ
stated bs = min (value_from 0 bs) 18446744073709551615

pub data Form : List ℕ → Call → Type 0 where
  offer : {row payload : List ℕ} → Number row → Number payload → Form (111 ∷ 32 ∷ row ++ 32 ∷ payload) (Offer (stated row) (stated payload))
  best : {payload : List ℕ} → Number payload → Form (98 ∷ 32 ∷ payload) (Best (stated payload))
  advance : {n : List ℕ} → Number n → Form (97 ∷ 32 ∷ n) (Advance (stated n))

-- A line without its end, and a run that stops at it with nothing printed.
abbrev pub NoEnd : List ℕ → Type 0
NoEnd [] = Unit {0}
NoEnd (b ∷ bs) = (b ≡ 10 → ⊥) × NoEnd bs

abbrev pub Stops : Told → Type 0
Stops r = (r.text ≡ []) × (r.live ≡ false)
