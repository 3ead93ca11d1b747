-- A line of no form prints nothing, states no call and stops the run.
use Prim.Native.Nat.{ℕ, ◌+◌, ◌-◌, ◌*◌}
use mathlib.Core.Bool.{Bool, true, false, cond}
use mathlib.Core.List.{List, [], ◌∷◌, ◌++◌}
use mathlib.Core.Path.{◌≡◌, refl, sym, subst, ◌∙◌, ap}
use lib.Dec.{eqb}
use borrow.Author.Tests.{eqb-true, ne_eqb}
use Rattle.machine.specs.State.{State}
use Rattle.machine.specs.Calls as machine
use Rattle.texts.specs.declared.lines.Call.{Call}
use Rattle.texts.specs.declared.lines.Call.TheVariants as calls
use Rattle.texts.specs.declared.lines.Wanted.{Wanted}
use Rattle.texts.specs.declared.lines.Wanted.TheVariants.{Row, Payload, Best, Count}
use Rattle.texts.specs.declared.lines.Line.{Line}
use Rattle.texts.specs.declared.lines.Line.TheVariants.{Empty, Letter, Space, Digits}
use Rattle.texts.specs.declared.lines.Stepped.{Stepped}
use Rattle.texts.specs.declared.lines.Stepped.TheVariants.{More, Whole, Other}
use Rattle.texts.specs.Lines.{is_digit, grown, spaced_of, ended_of, step_of}
use Rattle.runs.specs.Runs.{told}
use Rattle.runs.specs.Printed.{calls_from}
use Rattle.runs.specs.Forms.{Number, digit, more, stated, Form, offer, best, advance, NoEnd, Stops}
use Rattle.runs.proofs.Forms.{grown_from, grown_value, GoesOver, told_on, next_call, calls_on}
use Rattle.runs.proofs.Runs.{next_byte}

-- What is left of a line states a call.
abbrev After : (Line → Type 0) → Stepped → Type 0
After f (More l) = f l
After f (Whole c) = ⊥
After f Other = ⊥

abbrev EndIs : Call → Stepped → Type 0
EndIs c (More l) = ⊥
EndIs c (Whole d) = d ≡ c
EndIs c Other = ⊥

abbrev Completes : List ℕ → Call → Line → Type 0
Completes [] c l = EndIs c (step_of l 10)
Completes (b ∷ xs) c l = After (Completes xs c) (step_of l b)

abbrev IsMore : Stepped → Type 0
IsMore (More l) = Unit {0}
IsMore (Whole c) = ⊥
IsMore Other = ⊥

abbrev IsWhole : Stepped → Type 0
IsWhole (More l) = ⊥
IsWhole (Whole c) = Unit {0}
IsWhole Other = ⊥

never_more : (k : Wanted) (n : ℕ) → IsMore (ended_of k n) → ⊥
never_more Row n h = h
never_more (Payload row) n h = h
never_more Best n h = h
never_more Count n h = h

never_whole : (k : Wanted) (n : ℕ) → IsWhole (spaced_of k n) → ⊥
never_whole Row n h = h
never_whole (Payload row) n h = h
never_whole Best n h = h
never_whole Count n h = h

no_more : (l : Line) → IsMore (step_of l 10) → ⊥
no_more Empty h = h
no_more (Letter k) h = h
no_more (Space k) h = h
no_more (Digits k n) h = never_more k n h

-- A whole call comes at the line's end alone.
letters : (x y z : Bool) (l m n : Line) → IsWhole (cond x (More l) (cond y (More m) (cond z (More n) Other))) → ⊥
letters true y z l m n h = h
letters false true z l m n h = h
letters false false true l m n h = h
letters false false false l m n h = h

one : (x : Bool) (l : Line) → IsWhole (cond x (More l) Other) → ⊥
one true l h = h
one false l h = h

in_number : (x y : Bool) (l : Line) (r : Stepped) → (IsWhole r → ⊥) → IsWhole (cond x (More l) (cond y r Other)) → ⊥
in_number true y l r f h = h
in_number false true l r f h = f h
in_number false false l r f h = h

only_at_end : (l : Line) (b : ℕ) → (b ≡ 10 → ⊥) → IsWhole (step_of l b) → ⊥
only_at_end Empty b e h = letters (eqb b 111) (eqb b 98) (eqb b 97) _ _ _ h
only_at_end (Letter k) b e h = one (eqb b 32) _ h
only_at_end (Space k) b e h = one (is_digit b) _ h
only_at_end (Digits k n) b e h = in_number (is_digit b) (eqb b 32) _ (spaced_of k n) (never_whole k n) (rw (ne_eqb b 10 e) at h)

-- What goes over lines has P where a byte is of no form.
module _ {X : Type 0} (f : List ℕ → Line → X) (on : GoesOver f) (P : X → Type 0) (stop : (b : ℕ) (bytes : List ℕ) (l : Line) → step_of l b ≡ Other → P (f (b ∷ bytes) l)) where
  at_end : (rest : List ℕ) (l : Line) (r : Stepped) → step_of l 10 ≡ r → (IsMore r → ⊥) → ((c : Call) → EndIs c r → ⊥) → P (f (10 ∷ rest) l)
  at_end rest l (More next) e m g = absurd (m tt)
  at_end rest l (Whole c) e m g = absurd (g c refl)
  at_end rest l Other e m g = stop 10 rest l e

  in_line : (b : ℕ) (xs bytes : List ℕ) (l : Line) (r : Stepped) → step_of l b ≡ r → (IsWhole r → ⊥) → ((c : Call) → After (Completes xs c) r → ⊥) → ((next : Line) → ((c : Call) → Completes xs c next → ⊥) → P (f bytes next)) → P (f (b ∷ bytes) l)
  in_line b xs bytes l (More next) e w g later = subst P (sym (on b bytes l next e)) (later next g)
  in_line b xs bytes l (Whole c) e w g later = absurd (w tt)
  in_line b xs bytes l Other e w g later = stop b bytes l e

  stops_left : (xs rest : List ℕ) (l : Line) → NoEnd xs → ((c : Call) → Completes xs c l → ⊥) → P (f (xs ++ 10 ∷ rest) l)
  stops_left [] rest l h g = at_end rest l (step_of l 10) refl (no_more l) g
  stops_left (b ∷ xs) rest l h g = in_line b xs (xs ++ 10 ∷ rest) l (step_of l b) refl (only_at_end l b h.0) g (λ next k. stops_left xs rest next h.1 k)

abbrev AllDigits : List ℕ → Type 0
AllDigits [] = Unit {0}
AllDigits (b ∷ bs) = (is_digit b ≡ true) × AllDigits bs

numbered : (b : ℕ) (bs : List ℕ) → is_digit b ≡ true → AllDigits bs → Number (b ∷ bs)
numbered b [] e h = digit e
numbered b (x ∷ xs) e h = more e (numbered x xs h.0 h.1)

after_more : (f : Line → Type 0) (r : Stepped) → After f r → IsMore r
after_more f (More l) h = tt
after_more f (Whole c) h = h
after_more f Other h = h

-- The digits of a number that no space may follow.
record LastNumber (k : Wanted) (n : ℕ) (xs : List ℕ) (c : Call) : Type 0 where
  digits : AllDigits xs
  ends : EndIs c (ended_of k (grown_from n xs))

record Numbered (k : Wanted) (xs : List ℕ) (c : Call) : Type 0 where
  number : Number xs
  ends : EndIs c (ended_of k (stated xs))

module _ (k : Wanted) (last : (n : ℕ) → IsMore (spaced_of k n) → ⊥) (c : Call) where
  last_digit : (b : ℕ) (xs : List ℕ) (n : ℕ) (x y z : Bool) → is_digit b ≡ x → After (Completes xs c) (cond x (More (Digits k (grown n (b - 48)))) (cond y (spaced_of k n) (cond z (ended_of k n) Other))) → (Completes xs c (Digits k (grown n (b - 48))) → LastNumber k (grown n (b - 48)) xs c) → LastNumber k n (b ∷ xs) c
  last_digit b xs n true y z e h later = let r = later h in record { digits = (e, r.digits); ends = r.ends }
  last_digit b xs n false true z e h later = absurd (last n (after_more (Completes xs c) (spaced_of k n) h))
  last_digit b xs n false false true e h later = absurd (never_more k n (after_more (Completes xs c) (ended_of k n) h))
  last_digit b xs n false false false e h later = absurd h

  last_digits : (xs : List ℕ) (n : ℕ) → Completes xs c (Digits k n) → LastNumber k n xs c
  last_digits [] n h = record { digits = tt; ends = h }
  last_digits (b ∷ xs) n h = last_digit b xs n (is_digit b) (eqb b 32) (eqb b 10) refl h (last_digits xs (grown n (b - 48)))

  first_of_last : (b : ℕ) (xs : List ℕ) (x : Bool) → is_digit b ≡ x → After (Completes xs c) (cond x (More (Digits k (grown 0 (b - 48)))) Other) → Numbered k (b ∷ xs) c
  first_of_last b xs true e h =
      let r = last_digits xs (grown 0 (b - 48)) h in
      record { number = numbered b xs e r.digits; ends = subst (λ (n : ℕ). EndIs c (ended_of k n)) (grown_value (10 * 0 + (b - 48)) xs) r.ends }
  first_of_last b xs false e h = absurd h

  last_number : (xs : List ℕ) → Completes xs c (Space k) → Numbered k xs c
  last_number [] h = absurd h
  last_number (b ∷ xs) h = first_of_last b xs (is_digit b) refl h

-- A row, its space, and what follows.
record RowLeft (n : ℕ) (xs : List ℕ) (c : Call) : Type 0 where
  row : List ℕ
  rest : List ℕ
  split : xs ≡ row ++ 32 ∷ rest
  digits : AllDigits row
  left : Completes rest c (Space (Payload (grown_from n row)))

module _ (c : Call) where
  row_digit : (b : ℕ) (xs : List ℕ) (n : ℕ) (x y z : Bool) → is_digit b ≡ x → eqb b 32 ≡ y → After (Completes xs c) (cond x (More (Digits Row (grown n (b - 48)))) (cond y (More (Space (Payload n))) (cond z Other Other))) → (Completes xs c (Digits Row (grown n (b - 48))) → RowLeft (grown n (b - 48)) xs c) → RowLeft n (b ∷ xs) c
  row_digit b xs n true y z e f h later = let r = later h in record { row = b ∷ r.row; rest = r.rest; split = ap (λ (l : List ℕ). b ∷ l) r.split; digits = (e, r.digits); left = r.left }
  row_digit b xs n false true z e f h later = record { row = []; rest = xs; split = ap (λ (i : ℕ). i ∷ xs) (eqb-true b 32 f); digits = tt; left = h }
  row_digit b xs n false false true e f h later = absurd h
  row_digit b xs n false false false e f h later = absurd h

  row_digits : (xs : List ℕ) (n : ℕ) → Completes xs c (Digits Row n) → RowLeft n xs c
  row_digits [] n h = absurd h
  row_digits (b ∷ xs) n h = row_digit b xs n (is_digit b) (eqb b 32) (eqb b 10) refl refl h (row_digits xs (grown n (b - 48)))

  offer_digit : (b : ℕ) (xs : List ℕ) (x : Bool) → is_digit b ≡ x → After (Completes xs c) (cond x (More (Digits Row (grown 0 (b - 48)))) Other) → Form (111 ∷ 32 ∷ b ∷ xs) c
  offer_digit b xs true e h =
      let r = row_digits xs (grown 0 (b - 48)) h in
      let p = last_number (Payload (grown_from (grown 0 (b - 48)) r.row)) (λ n g. g) c r.rest r.left in
      let f : Form (111 ∷ 32 ∷ b ∷ (r.row ++ 32 ∷ r.rest)) (calls.Offer (stated (b ∷ r.row)) (stated r.rest)) = offer (numbered b r.row e r.digits) p.number in
      let g : calls.Offer (stated (b ∷ r.row)) (stated r.rest) ≡ c = ap (λ (n : ℕ). calls.Offer n (stated r.rest)) (sym (grown_value (10 * 0 + (b - 48)) r.row)) ∙ p.ends in
      subst (λ (l : List ℕ). Form (111 ∷ 32 ∷ b ∷ l) c) (sym r.split) (subst (λ (d : Call). Form (111 ∷ 32 ∷ b ∷ (r.row ++ 32 ∷ r.rest)) d) g f)
  offer_digit b xs false e h = absurd h

  offer_left : (xs : List ℕ) → Completes xs c (Space Row) → Form (111 ∷ 32 ∷ xs) c
  offer_left [] h = absurd h
  offer_left (b ∷ xs) h = offer_digit b xs (is_digit b) refl h

  best_left : (xs : List ℕ) → Completes xs c (Space Best) → Form (98 ∷ 32 ∷ xs) c
  best_left xs h = let r = last_number Best (λ n g. g) c xs h in subst (λ (d : Call). Form (98 ∷ 32 ∷ xs) d) r.ends (best r.number)

  advance_left : (xs : List ℕ) → Completes xs c (Space Count) → Form (97 ∷ 32 ∷ xs) c
  advance_left xs h = let r = last_number Count (λ n g. g) c xs h in subst (λ (d : Call). Form (97 ∷ 32 ∷ xs) d) r.ends (advance r.number)

  space_left : (k : Wanted) (a b : ℕ) (xs : List ℕ) (x : Bool) → eqb b 32 ≡ x → ((ys : List ℕ) → Completes ys c (Space k) → Form (a ∷ 32 ∷ ys) c) → After (Completes xs c) (cond x (More (Space k)) Other) → Form (a ∷ b ∷ xs) c
  space_left k a b xs true e f h = subst (λ (i : ℕ). Form (a ∷ i ∷ xs) c) (sym (eqb-true b 32 e)) (f xs h)
  space_left k a b xs false e f h = absurd h

  letter_left : (k : Wanted) (a : ℕ) (xs : List ℕ) → ((ys : List ℕ) → Completes ys c (Space k) → Form (a ∷ 32 ∷ ys) c) → Completes xs c (Letter k) → Form (a ∷ xs) c
  letter_left k a [] f h = absurd h
  letter_left k a (b ∷ xs) f h = space_left k a b xs (eqb b 32) refl f h

  line_left : (b : ℕ) (xs : List ℕ) (x y z : Bool) → eqb b 111 ≡ x → eqb b 98 ≡ y → eqb b 97 ≡ z → After (Completes xs c) (cond x (More (Letter Row)) (cond y (More (Letter Best)) (cond z (More (Letter Count)) Other))) → Form (b ∷ xs) c
  line_left b xs true y z e f g h = subst (λ (i : ℕ). Form (i ∷ xs) c) (sym (eqb-true b 111 e)) (letter_left Row 111 xs offer_left h)
  line_left b xs false true z e f g h = subst (λ (i : ℕ). Form (i ∷ xs) c) (sym (eqb-true b 98 f)) (letter_left Best 98 xs best_left h)
  line_left b xs false false true e f g h = subst (λ (i : ℕ). Form (i ∷ xs) c) (sym (eqb-true b 97 g)) (letter_left Count 97 xs advance_left h)
  line_left b xs false false false e f g h = absurd h

  to_form : (xs : List ℕ) → Completes xs c Empty → Form xs c
  to_form [] h = absurd h
  to_form (b ∷ xs) h = line_left b xs (eqb b 111) (eqb b 98) (eqb b 97) refl refl refl h

-- At a line of any other form it stops, and there is no call more.
stops : (s : State) (b : ℕ) (bytes : List ℕ) (l : Line) → step_of l b ≡ Other → Stops (told (b ∷ bytes) s l)
stops s b bytes l e = rw (next_byte b bytes s l, e) (refl, refl)

pub of_no_form : (xs rest : List ℕ) (s : State) → NoEnd xs → ((c : Call) → Form xs c → ⊥) → Stops (told (xs ++ 10 ∷ rest) s Empty)
of_no_form xs rest s h f = stops_left (λ bytes l. told bytes s l) (told_on s) Stops (stops s) xs rest Empty h (λ c g. f c (to_form c xs g))

pub no_call_of_no_form : (xs rest : List ℕ) (cs : List machine.Call) → NoEnd xs → ((c : Call) → Form xs c → ⊥) → calls_from (xs ++ 10 ∷ rest) Empty cs ≡ cs
no_call_of_no_form xs rest cs h f =
    stops_left (λ bytes l. calls_from bytes l cs) (calls_on cs) (λ r. r ≡ cs) (λ b bytes l e. next_call b bytes l cs ∙ rw e) xs rest Empty h (λ c g. f c (to_form c xs g))
