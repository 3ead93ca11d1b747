-- A line of one of the three forms states its call, to whatever goes over lines byte by byte: what is told of an input, and its calls.
use Prim.Native.Nat.{ℕ, ◌+◌, ◌-◌, ◌*◌, min}
use mathlib.Core.List.{List, [], ◌∷◌, ◌++◌, append_assoc}
use mathlib.Core.Path.{◌≡◌, refl, ◌∙◌, ap}
use native.Mathlib.Omega.{arith}
use Rattle.machine.specs.State.{State}
use Rattle.machine.specs.Calls as machine
use Rattle.texts.specs.declared.lines.Call.{Call}
use Rattle.texts.specs.declared.lines.Wanted.{Wanted}
use Rattle.texts.specs.declared.lines.Wanted.TheVariants.{Row, Payload, Best, Count}
use Rattle.texts.specs.declared.lines.Line.{Line}
use Rattle.texts.specs.declared.lines.Line.TheVariants.{Empty, Letter, Space, Digits}
use Rattle.texts.specs.declared.lines.Stepped.TheVariants.{More, Whole}
use Rattle.texts.specs.Lines.{grown, step_of}
use Rattle.texts.specs.Text.{line_of}
use Rattle.runs.specs.Answers.{answer_of, call_of}
use Rattle.runs.specs.Runs.{printed, told}
use Rattle.runs.specs.Printed.{on_call, calls_from}
use Rattle.runs.specs.Forms.{Number, digit, more, value_from, stated, Form, offer, best, advance}
use Rattle.runs.proofs.Runs.{next_byte}

abbrev pub grown_from : ℕ → List ℕ → ℕ
grown_from n [] = n
grown_from n (b ∷ bs) = grown_from (grown n (b - 48)) bs

-- Digits behind the largest number leave it as it is.
pub grown_value : (n : ℕ) (bs : List ℕ) → grown_from (min n 18446744073709551615) bs ≡ min (value_from n bs) 18446744073709551615
grown_value n [] = refl
grown_value n (b ∷ bs) =
    let z : grown (min n 18446744073709551615) (b - 48) ≡ min (10 * n + (b - 48)) 18446744073709551615 = omega arith in
    rw z (grown_value (10 * n + (b - 48)) bs)

-- A byte with which the line goes on leaves all to the bytes behind it.
abbrev pub GoesOver : {X : Type 0} → (List ℕ → Line → X) → Type 0
GoesOver f = (b : ℕ) (bytes : List ℕ) (l next : Line) → step_of l b ≡ More next → f (b ∷ bytes) l ≡ f bytes next

module _ {X : Type 0} (f : List ℕ → Line → X) (on : GoesOver f) where
  -- the line that a whole one ends as
  record Ends (xs rest : List ℕ) (c : Call) : Type 0 where
    line : Line
    whole : step_of line 10 ≡ Whole c
    left : f (xs ++ 10 ∷ rest) Empty ≡ f (10 ∷ rest) line

  module _ (rest : List ℕ) (k : Wanted) where
    digits_run : (n : ℕ) {bs : List ℕ} → Number bs → f (bs ++ rest) (Digits k n) ≡ f rest (Digits k (grown_from n bs))
    digits_run n (digit {b} e) = on b rest (Digits k n) (Digits k (grown n (b - 48))) (rw e refl)
    digits_run n (more {b} {bs} e d) = on b (bs ++ rest) (Digits k n) (Digits k (grown n (b - 48))) (rw e refl) ∙ digits_run (grown n (b - 48)) d

    number_run : {bs : List ℕ} → Number bs → f (bs ++ rest) (Space k) ≡ f rest (Digits k (stated bs))
    number_run (digit {b} e) = on b rest (Space k) (Digits k (grown 0 (b - 48))) (rw e refl)
    number_run (more {b} {bs} e d) =
        on b (bs ++ rest) (Space k) (Digits k (grown 0 (b - 48))) (rw e refl) ∙ digits_run (grown 0 (b - 48)) d ∙ ap (λ (n : ℕ). f rest (Digits k n)) (grown_value (10 * 0 + (b - 48)) bs)

    letter_run : (a : ℕ) {bs : List ℕ} → step_of Empty a ≡ More (Letter k) → Number bs → f (a ∷ 32 ∷ bs ++ rest) Empty ≡ f rest (Digits k (stated bs))
    letter_run a {bs} e x = on a (32 ∷ bs ++ rest) Empty (Letter k) e ∙ on 32 (bs ++ rest) (Letter k) (Space k) refl ∙ number_run x

  line_ends : {xs : List ℕ} {c : Call} (rest : List ℕ) → Form xs c → Ends xs rest c
  line_ends rest (offer {row} {payload} x y) =
      let pay = 32 ∷ payload ++ 10 ∷ rest in
      record {
        line = Digits (Payload (stated row)) (stated payload);
        whole = refl;
        left = ap (λ (bytes : List ℕ). f (111 ∷ 32 ∷ bytes) Empty) (append_assoc row (32 ∷ payload) (10 ∷ rest)) ∙ letter_run pay Row 111 refl x ∙ on 32 (payload ++ 10 ∷ rest) (Digits Row (stated row)) (Space (Payload (stated row))) refl ∙ number_run (10 ∷ rest) (Payload (stated row)) y;
      }
  line_ends rest (best {payload} x) = record { line = Digits Best (stated payload); whole = refl; left = letter_run (10 ∷ rest) Best 98 refl x }
  line_ends rest (advance {n} x) = record { line = Digits Count (stated n); whole = refl; left = letter_run (10 ∷ rest) Count 97 refl x }

pub told_on : (s : State) → GoesOver (λ bytes l. told bytes s l)
told_on s b bytes l next e = next_byte b bytes s l ∙ rw e

pub next_call : (b : ℕ) (bytes : List ℕ) (l : Line) (cs : List machine.Call) → calls_from (b ∷ bytes) l cs ≡ on_call (calls_from bytes) cs (step_of l b)
unfolding calls_from
next_call b bytes l cs = refl

pub calls_on : (cs : List machine.Call) → GoesOver (λ bytes l. calls_from bytes l cs)
calls_on cs b bytes l next e = next_call b bytes l cs ∙ rw e

-- A line of one of the forms is answered, its call is one of the calls, and the next line begins.
pub of_form : {xs : List ℕ} {c : Call} (rest : List ℕ) (s : State) → Form xs c → told (xs ++ 10 ∷ rest) s Empty ≡ printed (line_of (answer_of (machine.answer s (call_of c)))) (told rest (machine.after s (call_of c)) Empty)
of_form rest s x = let r = line_ends (λ bytes l. told bytes s l) (told_on s) rest x in r.left ∙ next_byte 10 rest s r.line ∙ rw r.whole

pub call_of_form : {xs : List ℕ} {c : Call} (rest : List ℕ) (cs : List machine.Call) → Form xs c → calls_from (xs ++ 10 ∷ rest) Empty cs ≡ calls_from rest Empty (call_of c ∷ cs)
call_of_form rest cs x = let r = line_ends (λ bytes l. calls_from bytes l cs) (calls_on cs) rest x in r.left ∙ next_call 10 rest r.line cs ∙ rw r.whole
