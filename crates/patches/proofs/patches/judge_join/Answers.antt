-- `patches::patches::judge_join` meets its contract: each test that fails is the check that decides, and a table that passes them all has the row.
use Prim.Native.Nat.{ℕ, ◌<◌}
use mathlib.Core.Bool.{Bool, true, false}
use mathlib.Core.Path.{◌≡◌, sym, ◌∙◌, ap}
use native.Mathlib.Omega.{arith}
use Rattle.table.specs.declared.Row.{Row}
use Rattle.table.specs.declared.Table.{Table}
use Rattle.table.specs.declared.Refusal.TheVariants.{Value}
use Rattle.table.specs.Limits.{most_rows}
use Rattle.table.specs.Rows.{contents, in_use, with_row}
use Rattle.table.specs.Ranges.{row_ok}
use Rattle.planner.specs.Opening.{standing}
use Rattle.planner.proofs.Laws.{all_filled}
use Rattle.machine.specs.declared.Denial.TheVariants.{Broken, InUse, Misfit}
use Rattle.machine.specs.declared.Port.{Port}
use Rattle.machine.specs.State.{view}
use Rattle.machine.specs.Record.{sound}
use Rattle.machine.specs.Calls.{join_check}
use Rattle.machine.proofs.Places.{port_places}
use Rattle.patches.proofs.Judged.{join_broken, join_above, join_used, join_row_lem, join_by_lem, few_rows, table_of, join_refused, join_taken}
use Rattle.patches.proofs.patches.judge_join.Goals as goal

-- ---- past the record check
sound_here : {w b : Bool} → w ≡ b → w ≡ true → b ≡ true
sound_here e h = sym e ∙ h

-- ---- past the check of the number
unused : (p : Port) (k : ℕ) {b : Bool} → b ≡ in_use (contents p.table) k → b ≡ false → in_use (view p).table k ≡ false
unused p k e h = ap (λ t. in_use t k) (table_of p) ∙ sym e ∙ h

-- ---- the table with the row decides
check : (p : Port) (k : ℕ) (r : Row) (t : Table) → sound (view p) ≡ true → k < most_rows → in_use (view p).table k ≡ false → row_ok r ≡ true → contents t ≡ with_row k r (contents p.table) → join_check (view p) k r ≡ standing (contents t)
check p k r t ok few free fits e = join_by_lem (view p) k r ok few free fits ∙ ap (λ x. standing (with_row k r x)) (table_of p) ∙ ap standing (sym e)

pub returns-then-not-whole : goal.returns-then-not-whole
returns-then-not-whole c w = join_refused _ _ _ Broken (join_broken _ _ _ (sym w ∙ c.if-not-whole.true))

pub returns-then-number : goal.returns-then-number
returns-then-number c w = join_refused _ _ _ InUse (join_above _ _ _ (sound_here w c.if-not-whole.false) c.if-number.true)

pub returns-then-t-gt-ROWS : goal.returns-then-t-gt-ROWS
returns-then-t-gt-ROWS c w = absurd (omega (arith, few_rows _ (sound_here w c.if-not-whole.false), c.if-t-gt-ROWS.true))

pub returns-then-in_use : goal.returns-then-in_use
returns-then-in_use c w =
    join_refused _ _ _ InUse (join_used _ _ _ (sound_here w c.if-not-whole.false) (ap (λ t. in_use t c.args.number) (table_of c.args.p) ∙ sym c.in_use.ensures ∙ c.if-in_use.true))

pub returns-then-not-row_ok : goal.returns-then-not-row_ok
returns-then-not-row_ok c w =
    join_refused _ _ _ (Misfit (Value c.args.number)) (join_row_lem _ _ _ (sound_here w c.if-not-whole.false) c.if-number.false (unused c.args.p _ c.in_use.ensures c.if-in_use.false) (sym c.row_ok.ensures ∙ c.if-not-row_ok.true))

pub returns-in-Err : goal.returns-in-Err
returns-in-Err c w =
    let by = check c.args.p c.args.number c.args.row c.with_row-u.result (sound_here w c.if-not-whole.false) c.if-number.false (unused c.args.p _ c.in_use.ensures c.if-in_use.false) (sym c.row_ok.ensures ∙ c.if-not-row_ok.false) c.with_row-u.ensures in
    join_refused _ _ _ (Misfit _) (by ∙ c.in-Err.ensures.classed)

pub returns : goal.returns
returns c w =
    let by = check c.args.p c.args.number c.args.row c.with_row-u.result (sound_here w c.if-not-whole.false) c.if-number.false (unused c.args.p _ c.in_use.ensures c.if-in_use.false) (sym c.row_ok.ensures ∙ c.if-not-row_ok.false) c.with_row-u.ensures in
    let verdict = c.in_default.ensures.classed.verdict in
    join_taken c.args.p (port_places c.args.p _ c.well_formed.0) c.args.number c.args.row c.with_row-u.result _ _ c.if-number.false (by ∙ verdict) c.with_row-u.ensures (all_filled true (contents c.with_row-u.result) _ c.classes.ensures.bounds verdict)
