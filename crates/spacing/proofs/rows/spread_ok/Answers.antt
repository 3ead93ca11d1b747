-- `spacing::rows::spread_ok` meets its contract: the row's frames on the wire, in A's queue and in B's.
use mathlib.Core.Path.{◌≡◌, ◌∙◌, ap}
use native.Mathlib.Omega.{arith}
use Rattle.machine.specs.Record.{sending, spaced}
use Rattle.spacing.specs.Steps.{listed}
use Rattle.spacing.proofs.Listed.{listed_three}
use Rattle.spacing.proofs.rows.spread_ok.Goals as goal

pub returns : goal.returns
returns c =
    let e : c.all_apart.result ≡ spaced c.args.period (listed c.with_queue-xs.result) = grind (arith, c.all_apart.ensures) in
    e ∙ ap (spaced c.args.period) (listed_three c.args.k (sending c.args.w) c.args.a.now c.args.b.now (listed c.on_wire.result) (listed c.with_queue.result) (listed c.with_queue-xs.result) c.on_wire.ensures.result_value c.with_queue.ensures.result_value c.with_queue-xs.ensures.result_value)
