-- A class's numbers, and what they make of a row.
use Rattle.std.specs.Prelude.{ℕ, ◌+◌, ◌-◌, ◌*◌, ◌/◌, Bool, true, false, not, cond, ◌&&◌, leb}
use Rattle.table.specs.declared.Class.{Class}
use Rattle.table.specs.declared.Class.TheVariants.{A, B}
use Rattle.table.specs.declared.Row.{Row}
use Rattle.table.specs.Limits.{D, most_slope}
use Rattle.table.specs.Wire.{size_of}
use Rattle.figures.specs.declared.Lane.{Lane}

-- Two tests agree.
abbrev pub same_test : Bool → Bool → Bool
same_test true b = b
same_test false b = not b

-- A row's residence, from its wire size and its class.
abbrev pub residence_with : ℕ → Lane → ℕ
residence_with c l = c + l.blocking + (D * (l.total - c) + (D - l.idle) * l.largest) / l.idle

-- The one of two classes that is named.
abbrev pub pick_lane : Class → Lane → Lane → Lane
pick_lane A a b = a
pick_lane B a b = b

-- Numbers that are small, as those of each class of an accepted table are that has a row.
abbrev pub most_modest : ℕ
most_modest = 1099511627776

unfoldable pub modest : Lane → Bool
modest l = (leb 1 l.idle && leb l.idle most_slope) && (leb l.largest most_modest && (leb l.total most_modest && leb l.blocking most_modest))

-- A row's residence by two classes of any numbers: 0 where those of its own are not small, or its wire size is above their sum.
abbrev pub residence_if : Lane → ℕ → ℕ
residence_if l c = cond (modest l && leb c l.total) (residence_with c l) 0

unfoldable pub residence_by : Lane → Lane → Row → ℕ
residence_by a b r = residence_if (pick_lane r.class a b) (size_of r)
