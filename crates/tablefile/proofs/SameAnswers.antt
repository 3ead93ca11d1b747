-- An outcome fixes the answer of reading; an outcome and a length fix that of writing.
use Rattle.std.specs.Prelude.{Result, Ok, Err}
use Prim.Native.Nat.{ℕ}
use mathlib.Core.Bool.{cond}
use mathlib.Core.Path.{◌≡◌, refl, sym, ◌∙◌, ap}
use lib.Dec.{eqb}
use Rattle.table.specs.declared.Refusal.{Refusal}
use Rattle.table.specs.declared.Refusal.TheVariants as refusals
use Rattle.table.specs.Checks as tables
use Rattle.table.specs.Checks.{Outcome, accepted, refused}
use Rattle.table.proofs.Laws as law
use Rattle.tablefile.specs.declared.Fault.TheVariants.{CutShort, Letters, RowCount, MapBit, OutOfRange, StatesDefault, Trailing, TwoPaces}
use Rattle.tablefile.specs.declared.Fault.{Fault}
use Rattle.tablefile.specs.declared.Misread.{Misread}
use Rattle.tablefile.specs.declared.Unwritten.{Unwritten}
use Rattle.tablefile.specs.declared.Unwritten.TheVariants as unwritten
use Rattle.tablefile.specs.Reading.{number_of, outcome_of}
use Rattle.tablefile.specs.Writing as writes
use Rattle.tablefile.specs.RoundTrip.{SameReading, SameWriting}

abbrev fault_by : ℕ → Fault
fault_by n = cond (eqb n 1) CutShort (cond (eqb n 2) Letters (cond (eqb n 3) RowCount (cond (eqb n 4) MapBit (cond (eqb n 5) OutOfRange (cond (eqb n 6) StatesDefault (cond (eqb n 7) Trailing TwoPaces))))))

abbrev reading_by : Outcome → Result (Unit {0}) Misread
reading_by accepted = Ok tt
reading_by (refused n p) = Err (record { fault = fault_by n; place = p })

fault_said : (f : Fault) → fault_by (number_of f) ≡ f
fault_said CutShort = refl
fault_said Letters = refl
fault_said RowCount = refl
fault_said MapBit = refl
fault_said OutOfRange = refl
fault_said StatesDefault = refl
fault_said Trailing = refl
fault_said TwoPaces = refl

answered : (a : Result (Unit {0}) Misread) → reading_by (outcome_of a) ≡ a
answered (Ok tt) = refl
answered (Err m) = ap (λ (f : Fault). Err (record { fault = f; place = m.place })) (fault_said m.fault)

pub same_reading : SameReading
same_reading a b e = sym (answered a) ∙ ap reading_by e ∙ answered b

-- what an outcome and a length say was answered: 17 and 23 are no refusals of a table
abbrev unwritten_by : ℕ → ℕ → Unwritten
unwritten_by k p = cond (eqb k 17) unwritten.TooShort (cond (eqb k 23) (unwritten.Tagged p) (unwritten.Refused (law.refusal_by k p)))

abbrev writing_by : Outcome → ℕ → Result ℕ Unwritten
writing_by accepted n = Ok n
writing_by (refused k p) n = Err (unwritten_by k p)

of_table : (r : Refusal) → unwritten_by (tables.number_of r) (tables.place_of r) ≡ unwritten.Refused (law.refusal_by (tables.number_of r) (tables.place_of r))
of_table refusals.RowCount = refl
of_table (refusals.Value p) = refl
of_table refusals.Slopes = refl
of_table (refusals.Shares c) = refl
of_table (refusals.Deadline k) = refl
of_table (refusals.Frames c) = refl

told : (w : Result ℕ Unwritten) → writing_by (writes.outcome_of w) (writes.length_of w) ≡ w
told (Ok n) = refl
told (Err unwritten.TooShort) = refl
told (Err (unwritten.Tagged k)) = refl
told (Err (unwritten.Refused r)) = ap Err (of_table r ∙ ap unwritten.Refused (law.refusal_said r))

pub same_writing : SameWriting
same_writing a b e f = sym (told a) ∙ ap (λ (o : Outcome). writing_by o (writes.length_of a)) e ∙ ap (writing_by (writes.outcome_of b)) f ∙ told b
