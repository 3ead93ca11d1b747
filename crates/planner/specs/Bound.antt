-- Blocking, residences and bounds, and how many frames may be in the port.
use Rattle.std.specs.Prelude.{ℕ, ◌+◌, ◌-◌, ◌*◌, ◌/◌, max, List, map, ◌++◌, length, replicate}
use Rattle.table.specs.declared.Class.{Class}
use Rattle.table.specs.declared.Class.TheVariants.{A, B}
use Rattle.table.specs.declared.Row.{Row}
use Rattle.table.specs.Limits.{D, most_rows}
use Rattle.table.specs.Wire.{ceil_div, size_of, period_of}
use Rattle.table.specs.Rows.{Contents}
pub use Rattle.figures.specs.Parts.{until_report, if_there}
use Rattle.planner.specs.Sums.{sum_over, largest, total, idle, send, best_size}

-- H. Class A: max(LB, LC). Class B: LA + (max(D × LC, IA × LB) / SA, rounded up), where IA, SA are A's slopes.
unfoldable pub blocking : Class → Contents → ℕ
blocking A t = max (largest B t) (best_size t)
blocking B t = largest A t + ceil_div (max (D * best_size t) (idle A t * largest B t)) (send A t)

-- A row's residence, the longest that a frame of it is in the port, gap included; before C-13 it was the bound: C + H + (D × (sum of C over its class − C) + S × L) / I,
-- the quotient rounded down, S, L and I being its class's.
unfoldable pub residence_in : Class → Contents → Row → ℕ
residence_in c t r = size_of r + blocking c t + (D * (total c t - size_of r) + send c t * largest c t) / idle c t

unfoldable pub residence : Contents → Row → ℕ
residence t r = residence_in r.class t r

-- A row's bound, the longest from the instant that its frame is taken to the frame's report: its residence, less the bytes that are left at the report.
unfoldable pub bound : Contents → Row → ℕ
bound t r = until_report (residence t r)

-- How many frames of a row may be in the port: its residence divided by its period, rounded up.
unfoldable pub most_of : Contents → Row → ℕ
most_of t r = ceil_div (residence t r) (period_of r)

-- The sum of these over a class.
unfoldable pub most_in : Class → Contents → ℕ
most_in c t = sum_over c (most_of t) t.rows

-- The bounds of a table: one for each number below the row count, 0 at an empty one. A port keeps them.
unfoldable pub bounds_of : Contents → List ℕ
bounds_of t = map (if_there (bound t)) t.rows

-- The 32 bounds of a sheet, 0 in each place behind the last row.
unfoldable pub bounds : Contents → List ℕ
bounds t = bounds_of t ++ replicate (most_rows - length t.rows) 0
