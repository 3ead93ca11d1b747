-- What a replay answers, by the checks in their order.
use Rattle.std.specs.Prelude.{Option, Some, None}
use Prim.Native.Nat.{ℕ, ◌*◌, ◌%◌, ◌≤◌}
use mathlib.Core.Bool.{Bool, true, false}
use mathlib.Core.List.{List, [], ◌∷◌}
use mathlib.Core.Path.{◌≡◌, refl, sym, ◌∙◌, ap}
use native.Mathlib.Omega.{arith}
use lib.ListN.{length}
use lib.Dec.{eqb, leb}
use borrow.Author.Tests.{leb-true}
use Rattle.table.specs.Rows.{contents}
use Rattle.table.proofs.Laws.{never}
use Rattle.tablefile.specs.declared.Unopened.{Unopened}
use Rattle.machine.specs.declared.Port.{Port}
use Rattle.table.specs.Checks.{accepted, unless, first}
use Rattle.tablefile.specs.Reading.{unopened_by, read_file}
use Rattle.machine.proofs.EveryList.{every_list_ran}
use Rattle.codes.specs.Codes.{code_of, file_check}
use Rattle.codes.proofs.Laws.{first_code, kept, opened_accepted}
use Rattle.callbytes.specs.Calls.{call_size, answer_size}
use Rattle.turns.specs.Turns.{FreshOf}
use Rattle.replay.specs.declared.Fault.{Fault}
use Rattle.replay.specs.declared.Fault.TheVariants.{Odd, Unreadable, Room}
use Rattle.replay.specs.List.{first_unreadable, read_check, count_of, calls_of, list_check, replay_check, Replayed}
use Rattle.replay.specs.Steps.{outcome_of, Listed}

-- a list that is accepted: every call can be read, and the answers find room
by_tests : (a c : Bool) (o : Option ℕ) → first (unless a 101 0 ∷ read_check o ∷ unless c 103 0 ∷ []) ≡ accepted → (o ≡ None) × (c ≡ true)
by_tests false c o e = cc
by_tests true c (Some k) e = cc
by_tests true false None e = cc
by_tests true true None e = (refl, refl)

pub list_accepted : (s : List ℕ) (room : ℕ) → list_check s room ≡ accepted → (first_unreadable s (count_of s) ≡ None) × (answer_size * count_of s ≤ room)
unfolding list_check
list_accepted s room e =
    let p = by_tests (eqb (length s % call_size) 0) (leb (answer_size * count_of s) room) (first_unreadable s (count_of s)) e in
    (p.0, leb-true (answer_size * count_of s) room p.1)

-- no fault's code is 0
fault_told : (f : Fault) → code_of (outcome_of f) ≡ 0 → ⊥
fault_told Odd e = omega arith
fault_told (Unreadable k) e = omega arith
fault_told Room e = omega arith

-- ---- a replay
module _ (file s before : List ℕ) where
  refused_by : {r : ℕ} → r ≡ code_of (replay_check file s (length before)) → (r ≡ 0 → ⊥) → Replayed file s before before r
  refused_by e h = record { code = e; buffer = kept (replay_check file s (length before)) _ before e h; ran = λ z. absurd (h (e ∙ ap code_of z)) }

  pub misfit : (f : Fault) {r : ℕ} → outcome_of f ≡ list_check s (length before) → r ≡ code_of (outcome_of f) → Replayed file s before before r
  unfolding replay_check
  misfit f e c =
      refused_by (first_code (list_check s (length before)) (file_check file) (c ∙ ap code_of e) (λ z. fault_told f (sym c ∙ z))) (λ z. fault_told f (sym c ∙ z))

  module _ (fit : list_check s (length before) ≡ accepted) where
    pub file_refused : (e : Unopened) {r : ℕ} → file_check file ≡ unopened_by e → r ≡ code_of (unopened_by e) → Replayed file s before before r
    unfolding replay_check
    file_refused e h c = record { code = rw (fit, h) c; buffer = rw (fit, h) refl; ran = λ z. never (rw (fit, h) at z) }

    pub all_answered : {p : Port} → FreshOf file p → {after : List ℕ} → Listed p s before after → Replayed file s before after 0
    unfolding replay_check
    all_answered made listed =
        let all : replay_check file s (length before) ≡ accepted = rw (fit, made.check) refl in
        let t = (read_file file).table in
        record {
          code = rw all refl;
          buffer = rw all (listed (contents t) made.fresh);
          ran = λ _. every_list_ran t (opened_accepted file made.check).1 (calls_of s (count_of s));
        }
