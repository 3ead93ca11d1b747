-- What the crates above may know of codes besides their definitions: a code of 0 is no refusal, and checks run in their order.
use Rattle.std.specs.Prelude.{Result, Ok, Err, IsErrAnd, MatchResult}
use Rattle.std.proofs.lemmas.Result.{err_from_is_err_and}
use Prim.Native.Nat.{ℕ}
use mathlib.Core.List.{List, [], ◌∷◌}
use mathlib.Core.Path.{◌≡◌, refl, sym, ◌∙◌, ap}
use native.Mathlib.Omega.{arith}
use Rattle.table.specs.declared.Refusal.{Refusal}
use Rattle.table.specs.declared.Refusal.TheVariants as refusals
use Rattle.table.specs.Rows.{contents}
use Rattle.table.specs.Checks as tables
use Rattle.table.specs.Checks.{Outcome, accepted, refused, first, unless_refused}
use Rattle.table.proofs.Laws.{never}
use Rattle.planner.specs.Opening.{opening}
use Rattle.tablefile.specs.declared.Fault.{Fault}
use Rattle.tablefile.specs.declared.Fault.TheVariants as faults
use Rattle.tablefile.specs.declared.Misread.{Misread}
use Rattle.tablefile.specs.declared.Unopened.{Unopened}
use Rattle.tablefile.specs.declared.Unopened.TheVariants as unopened
use Rattle.tablefile.specs.declared.Loaded.{Loaded}
use Rattle.tablefile.specs.Reading as files
use Rattle.tablefile.specs.Reading.{refusal_of, unopened_by, Whole, Reads, read_file}
use Rattle.codes.specs.Codes.{code_of, length_code, file_check}

-- no refusal has the code 0
fault_code : (f : Fault) (p : ℕ) → code_of (refused (files.number_of f) p) ≡ 0 → ⊥
fault_code faults.CutShort p e = omega (arith, e)
fault_code faults.Letters p e = omega (arith, e)
fault_code faults.RowCount p e = omega (arith, e)
fault_code faults.MapBit p e = omega (arith, e)
fault_code faults.OutOfRange p e = omega (arith, e)
fault_code faults.StatesDefault p e = omega (arith, e)
fault_code faults.Trailing p e = omega (arith, e)
fault_code faults.TwoPaces p e = omega (arith, e)

refusal_code : (r : Refusal) (p : ℕ) → code_of (refused (tables.number_of r) p) ≡ 0 → ⊥
refusal_code refusals.RowCount p e = omega (arith, e)
refusal_code (refusals.Value k) p e = omega (arith, e)
refusal_code refusals.Slopes p e = omega (arith, e)
refusal_code (refusals.Shares c) p e = omega (arith, e)
refusal_code (refusals.Deadline k) p e = omega (arith, e)
refusal_code (refusals.Frames c) p e = omega (arith, e)

pub unopened_code : (e : Unopened) → code_of (unopened_by e) ≡ 0 → ⊥
unopened_code (unopened.Misread m) z = fault_code m.fault m.place z
unopened_code (unopened.Refused r) z = refusal_code r (tables.place_of r) z

-- so a code of 0 is no refusal
pub reading_zero : {X : Type 0} (a : Result X Misread) → code_of (files.outcome_of a) ≡ 0 → files.outcome_of a ≡ accepted
reading_zero (Ok x) e = refl
reading_zero (Err m) e = absurd (fault_code m.fault m.place e)

pub both_zero : {X : Type 0} (a : Result X Misread) (v : Result (Unit {0}) Refusal) → code_of (first (files.outcome_of a ∷ tables.outcome_of v ∷ [])) ≡ 0 → first (files.outcome_of a ∷ tables.outcome_of v ∷ []) ≡ accepted
both_zero (Ok x) (Ok u) e = refl
both_zero (Ok x) (Err r) e = absurd (refusal_code r (tables.place_of r) e)
both_zero (Err m) v e = absurd (fault_code m.fault m.place e)

-- ---- checks in their order: the last one decides
pub first_one : (x : Outcome) → first (x ∷ []) ≡ x
first_one accepted = refl
first_one (refused n p) = refl

-- accepted by both is accepted by each
first_both : (x y : Outcome) → first (x ∷ y ∷ []) ≡ accepted → (x ≡ accepted) × (y ≡ accepted)
first_both accepted y e = (refl, sym (first_one y) ∙ e)
first_both (refused n p) y e = never e

-- a code that is not 0 is the first one's
pub first_code : (x y : Outcome) {r : ℕ} → r ≡ code_of x → (r ≡ 0 → ⊥) → r ≡ code_of (first (x ∷ y ∷ []))
first_code accepted y e h = absurd (h e)
first_code (refused n p) y e h = e

-- a refusal's code is the same where a length would be told
pub refusal_told : (o : Outcome) (n : ℕ) {r : ℕ} → r ≡ code_of o → (r ≡ 0 → ⊥) → r ≡ length_code o n
refusal_told accepted n e h = absurd (h e)
refusal_told (refused k p) n e h = e

-- at a code that is not 0 a buffer is as it was
pub kept : (o : Outcome) (new old : List ℕ) {r : ℕ} → r ≡ code_of o → (r ≡ 0 → ⊥) → old ≡ unless_refused o new old
kept accepted new old e h = absurd (h e)
kept (refused n p) new old e h = refl

-- ---- a table file that is opened
pub opened_accepted : (file : List ℕ) → file_check file ≡ accepted → ((read_file file).outcome ≡ accepted) × (opening (contents (read_file file).table) ≡ accepted)
unfolding file_check
opened_accepted file e = first_both (read_file file).outcome (opening (contents (read_file file).table)) e

-- a file is refused by what reading says, or else by what opening does, and one that neither refuses is accepted
pub misread : (file : List ℕ) (m : Misread) → (read_file file).outcome ≡ refusal_of m → file_check file ≡ unopened_by (unopened.Misread m)
unfolding file_check
misread file m e = rw e refl

module _ (file : List ℕ) {l : Loaded} (read : Whole (read_file file) l) where
  pub whole : {o : Outcome} → opening (contents l.table) ≡ o → file_check file ≡ o
  unfolding file_check
  whole {o} e = rw (read.outcome, ← read.table, e) (first_one o)

-- the answers of reading and of opening are the file's check
pub checked : (file : List ℕ) (a : Result Loaded Misread) → Reads (read_file file) a → (v : Result (Unit {0}) Refusal) → tables.outcome_of v ≡ opening (contents (read_file file).table) → first (files.outcome_of a ∷ tables.outcome_of v ∷ []) ≡ file_check file
checked file (Ok l) read v e = first_one (tables.outcome_of v) ∙ sym (whole file read (rw read.table (sym e)))
checked file (Err m) read v e = sym (misread file m read)

-- a `?` hands on why a file is not opened
pub handed_on : {X : Type 0} (P : X → Type 0) (file : List ℕ) (r : Result X Unopened) (e : Unopened) → IsErrAnd r (λ y. y ≡ e) → file_check file ≡ unopened_by e → MatchResult r P (λ y. file_check file ≡ unopened_by y)
handed_on P file r e h f = let p = err_from_is_err_and r h in let is : r ≡ Err e = p.1 ∙ ap Err p.2 in rw is f
