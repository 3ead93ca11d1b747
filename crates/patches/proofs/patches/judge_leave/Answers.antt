-- `patches::patches::judge_leave` meets its contract: each test that fails is the check that decides, and where the slopes are right the number is emptied.
use Prim.Native.Nat.{ℕ}
use mathlib.Core.Bool.{Bool, true}
use mathlib.Core.Path.{◌≡◌, refl, sym, ◌∙◌, ap}
use native.Mathlib.Omega.{arith}
use Rattle.table.specs.declared.Table.{Table}
use Rattle.table.specs.declared.Refusal.TheVariants.{Slopes}
use Rattle.table.specs.Rows.{contents, in_use, without_row}
use Rattle.table.specs.Checks.{Outcome}
use Rattle.table.proofs.Laws.{rows_length, unused, is_used}
use Rattle.planner.specs.Opening.{standing}
use Rattle.planner.proofs.Laws.{all_filled, accepted_with, refused_by}
use Rattle.machine.specs.declared.Denial.TheVariants.{Broken, NoSuchRow, Busy, Misfit}
use Rattle.machine.specs.declared.Port.{Port}
use Rattle.machine.specs.State.{view}
use Rattle.machine.proofs.Places.{port_places}
use Rattle.patches.proofs.Judged.{leave_broken, leave_unused, leave_busy, leave_passes, leave_last, few_rows, table_of, leave_refused, leave_taken}
use Rattle.patches.proofs.patches.judge_leave.Goals as goal

-- ---- past the record check
sound_here : {w b : Bool} → w ≡ b → w ≡ true → b ≡ true
sound_here e h = sym e ∙ h

-- ---- past the check of the number
used : (p : Port) (k : ℕ) {b r : Bool} → b ≡ in_use (contents p.table) k → b ≡ r → in_use (view p).table k ≡ r
used p k e h = ap (λ t. in_use t k) (table_of p) ∙ sym e ∙ h

-- ---- the table without the row decides
by_verdict : (p : Port) (k : ℕ) (t : Table) {o v : Outcome} → contents t ≡ without_row k (contents p.table) → o ≡ standing (contents t) → o ≡ v → standing (without_row k (view p).table) ≡ v
by_verdict p k t e f h = ap (λ x. standing (without_row k x)) (table_of p) ∙ ap standing (sym e) ∙ sym f ∙ h

pub returns-then-not-whole : goal.returns-then-not-whole
returns-then-not-whole c w = leave_refused _ _ Broken (leave_broken _ _ (sym w ∙ c.if-not-whole.true))

pub returns-then-t-gt-ROWS : goal.returns-then-t-gt-ROWS
returns-then-t-gt-ROWS c w = absurd (omega (arith, few_rows _ (sound_here w c.if-not-whole.false), c.if-t-gt-ROWS.true))

pub returns-then-number : goal.returns-then-number
returns-then-number c w =
    let ok = sound_here w c.if-not-whole.false in
    leave_refused _ _ NoSuchRow (leave_unused _ _ ok (ap (λ t. in_use t c.args.number) (table_of c.args.p) ∙ unused (contents c.args.p.table) c.args.number (rw (rows_length c.args.p.table) (omega (arith, few_rows c.args.p ok, c.if-number.true)))))

pub returns-then-not-in_use : goal.returns-then-not-in_use
returns-then-not-in_use c w =
    leave_refused _ _ NoSuchRow (leave_unused _ _ (sound_here w c.if-not-whole.false) (used c.args.p _ c.in_use.ensures c.if-not-in_use.true))

pub returns-then-not-is_quiet : goal.returns-then-not-is_quiet
returns-then-not-is_quiet c w =
    leave_refused _ _ Busy (leave_busy _ _ (sound_here w c.if-not-whole.false) (used c.args.p _ c.in_use.ensures c.if-not-in_use.false) (sym c.is_quiet.ensures ∙ c.if-not-is_quiet.true))

-- the number is below the count
pub without_row-fewer-requires : goal.without_row-fewer-requires
without_row-fewer-requires c =
    record { count_le_most_rows = omega arith; k_lt_count = rw (rows_length c.args.p.table) at (is_used (contents c.args.p.table) c.args.number (sym c.in_use.ensures ∙ c.if-not-in_use.false)).below }

pub returns-then-is_err : goal.returns-then-is_err
returns-then-is_err c w =
    let r = refused_by true _ c.classes.result (sym c.is_err.ensures.value ∙ c.if-is_err.true) c.classes.ensures.classed in
    leave_refused _ _ (Misfit Slopes) (leave_last _ _ (sound_here w c.if-not-whole.false) (used c.args.p _ c.in_use.ensures c.if-not-in_use.false) (sym c.is_quiet.ensures ∙ c.if-not-is_quiet.false) (by_verdict c.args.p _ c.without_row-fewer.result c.without_row-fewer.ensures refl r.1))

pub returns : goal.returns
returns c w =
    let verdict = accepted_with true _ c.classes.result (sym c.is_err.ensures.value ∙ c.if-is_err.false) c.classes.ensures.classed in
    let stands = by_verdict c.args.p _ c.without_row-fewer.result c.without_row-fewer.ensures refl verdict in
    let passes = leave_passes _ _ (sound_here w c.if-not-whole.false) (used c.args.p _ c.in_use.ensures c.if-not-in_use.false) (sym c.is_quiet.ensures ∙ c.if-not-is_quiet.false) stands in
    leave_taken c.args.p (port_places c.args.p _ c.well_formed.0) c.args.number c.without_row-fewer.result _ _ passes c.without_row-fewer.ensures (all_filled true (contents c.without_row-fewer.result) _ c.classes.ensures.bounds verdict)
