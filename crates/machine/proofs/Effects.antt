-- An effect that is carried out is what the call gives.
use Rattle.std.specs.Prelude.{Option, Some, None}
use mathlib.Core.Bool.{Bool, true, false}
use mathlib.Core.Path.{◌≡◌, refl, ◌∙◌}
use Rattle.table.specs.declared.Table.{Table}
use Rattle.machine.specs.declared.Denial.{Denial}
use Rattle.machine.specs.declared.Effect.{Effect}
use Rattle.machine.specs.declared.Passed.{Passed}
use Rattle.machine.specs.declared.Port.{Port}
use Rattle.machine.specs.State.{view}
use Rattle.machine.specs.Calls.{Call, denied, number_of, place_of, Keeps, patches, KeepsTable, Gives, Became}
use Rattle.machine.specs.Effects.{passed_answer, carried_out, Comes, Denied}

kept_by : (x : Option Passed) (p q : Port) → Keeps (passed_answer x) p q
kept_by None p q = tt
kept_by (Some x) p q = tt

table_by_lem : (b : Bool) {t u : Table} → u ≡ t → KeepsTable b t u
table_by_lem true e = tt
table_by_lem false e = e

pub gives : {p q : Port} {c : Call} {e : Effect} → Comes p c e → Became (carried_out e (view p)) p q → Gives p c (passed_answer e.passed) q
gives {p} {q} {c} {e} m b = record { answer = m.answer; port = b.port ∙ m.port; table = table_by_lem (patches c (passed_answer e.passed)) b.table; kept = kept_by e.passed p q }

-- a refusal hands the record back
pub keeps : {p : Port} {c : Call} {d : Denial} → Denied p c d → Gives p c (denied (number_of d) (place_of d)) p
keeps {p} {c} {d} m = record { answer = m.answer; port = m.port; table = same_table (patches c (denied (number_of d) (place_of d))); kept = refl }
  where
    same_table : (b : Bool) → KeepsTable b p.table p.table
    same_table true = tt
    same_table false = refl
