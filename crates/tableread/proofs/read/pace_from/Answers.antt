-- `tableread::read::pace_from` meets its contract: rate and samples are what the bytes at their places say where their bit stands.
use mathlib.Core.Path.{sym, ◌∙◌}
use Rattle.tablefile.specs.Layout.{Rate, Samples}
use Rattle.tableread.proofs.Values.{one_byte, number_here, by_rate}
use Rattle.tableread.proofs.read.pace_from.Goals as goal

pub returns-then-rate_stands : goal.returns-then-rate_stands
returns-then-rate_stands c =
    by_rate _ c.args.s.now _ c.byte-map.ensures c.rate_stands.ensures c.if-rate_stands.true (number_here Rate c.args.s.now c.byte-map.ensures c.rate_place.ensures.value c.u32_at.ensures) (number_here Samples c.args.s.now c.byte-map.ensures c.samples_place.ensures.value (c.byte.ensures ∙ sym (one_byte c.args.s.now _)))
