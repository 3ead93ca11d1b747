-- The rows whose numbers fit their fields.
use Rattle.std.specs.Prelude.{◌<◌, ◌^◌}
use Rattle.table.specs.declared.Pace.{Pace}
use Rattle.table.specs.declared.Pace.TheVariants.{Period, Rated}
use Rattle.table.specs.declared.Row.{Row}

abbrev pub PaceFits : Pace → Type 0
PaceFits (Period p) = p < 2 ^ 32
PaceFits (Rated samples rate) = (rate < 2 ^ 32) × (samples < 2 ^ 8)

pub record RowFits (r : Row) : Type 0 where
  pub payload : r.payload < 2 ^ 16
  pub pace : PaceFits r.pace
  pub deadline : r.deadline < 2 ^ 32
