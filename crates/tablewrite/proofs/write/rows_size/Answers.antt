-- `tablewrite::write::rows_size` meets its contract: the sizes of the rows, added up.
use Prim.Native.Nat.{ℕ}
use mathlib.Core.Path.{◌∙◌}
use native.Mathlib.Omega.{arith}
use Rattle.std.proofs.Common.{rules, tests}
use Rattle.std.proofs.lemmas.Iterator.{YieldsList-from_slice, YieldsList-from_map}
use Rattle.std.proofs.lemmas.Iterator.Consumers.{sum_by_from_yields_List}
use Rattle.table.specs.declared.Row.{Row}
use Rattle.tablefile.specs.Layout.{row_size}
use Rattle.tablefile.specs.Writing.{map_byte}
use Rattle.tablewrite.proofs.Sizes.{rows_sum, rows_most}
use Rattle.tablewrite.proofs.write.rows_size.Goals as goal

pub returns : goal.returns
returns c =
    let sizes : Row → ℕ = λ r. row_size (map_byte c.args.edition r) in
    let value = sum_by_from_yields_List sizes c.args.rows.now c.map.result _ c.sum.ensures.ran (YieldsList-from_map _ sizes (YieldsList-from_slice c.args.rows.now (cc)) c.map.ensures.closure (λ x b q k. search (rules, tests))) ∙ rows_sum c.args.edition c.args.rows.now in
    record { value = value; small = omega (arith, value, rows_most c.args.edition c.args.rows.now) }
