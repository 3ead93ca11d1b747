-- `lent_rows::rows::of_table` meets its contract: too many rows are refused, and else they are lent.
use Rattle.std.proofs.Common.{◌≡◌, ◌<◌, List, take, sym, ◌∙◌, subst, arith}
use Rattle.std.proofs.lemmas.Grind.{common_steps}
use Rattle.table.specs.declared.Row.{Row}
use Rattle.table.specs.Rows.{contents}
use Rattle.table.proofs.Laws.{places, rows_length, rows_are}
use Rattle.planner.specs.Plan.{Shown}
use Rattle.lent_rows.proofs.Loads.{long_right}
use Rattle.lent_rows.proofs.rows.of_table.Goals as goal

pub returns-in-Some : goal.returns-in-Some
returns-in-Some c =
    let t = c.args.t in
    let lent : c.in-Some.rows.now ≡ take t.count t.rows = grind (arith, common_steps, c.in-Some.ensures.lookup) in
    subst (λ (zs : List Row). Shown (record { header = t.header; rows = zs }) c.bounds.result) (lent ∙ sym (rows_are t c.in-Some.ensures.lookup.0.1)) c.bounds.ensures

pub returns-in-None : goal.returns-in-None
returns-in-None c =
    let t = c.args.t in
    let more : 32 < t.count = omega (arith, c.in-None.ensures.lookup, places t _ c.well_formed.0) in
    long_right (contents t) (rw (rows_length t) more)
