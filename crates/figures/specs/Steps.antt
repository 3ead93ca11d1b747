-- What the functions of this crate and the planner's promise each other. No promise of a customer's call cites this file.
use Rattle.std.specs.Prelude.{ℕ, ◌+◌, ◌-◌, ◌*◌, ◌≤◌, ◌<◌, max, Bool, true, ◌&&◌, ◌≡◌, leb, eqb}
use Rattle.table.specs.declared.Class.{Class}
use Rattle.table.specs.declared.Row.{Row}
use Rattle.table.specs.declared.Header.{Header}
use Rattle.table.specs.Limits.{D, most_slope, any_size}
use Rattle.table.specs.Wire.{ceil_div, wire_size, size_of, share_of}
use Rattle.table.specs.Rows.{is_there}
use Rattle.figures.specs.declared.Figures.{Figures}
use Rattle.figures.specs.declared.Lane.{Lane}
use Rattle.figures.specs.Parts.{part, if_there}
use Rattle.figures.specs.Lanes.{same_test, residence_with, pick_lane, most_modest}

-- Figures of at most n rows, whatever the rows hold: no sum of them is large.
pub record Small (n : ℕ) (f : Figures) : Type 0 where
  pub members : f.members ≤ n
  pub largest : f.largest ≤ any_size
  pub total : f.total ≤ n * any_size
  pub shares : f.shares ≤ n * (D * any_size)

-- How far one row can move the figures, whatever it holds.
pub record Grown (f r : Figures) : Type 0 where
  pub members : r.members ≤ f.members + 1
  pub largest : r.largest ≤ max f.largest any_size
  pub total : r.total ≤ f.total + any_size
  pub shares : r.shares ≤ f.shares + D * any_size

-- The figures with one row more.
abbrev pub joined : Figures → Class → Row → Figures
joined f c r =
    record {
      members = f.members + part c (λ x. 1) r;
      largest = max f.largest (part c size_of r);
      total = f.total + part c size_of r;
      shares = f.shares + part c share_of r;
    }

-- Rule 8 and what a class's residences are made of, from the header and both classes' figures.
abbrev pub slopes_by : Header → Figures → Figures → Bool
slopes_by h a b = (same_test (eqb h.idlea 0) (eqb a.members 0) && same_test (eqb h.idleb 0) (eqb b.members 0)) && leb (h.idlea + h.idleb) most_slope

abbrev pub lane_a : Header → Figures → Figures → Lane
lane_a h a b = record { idle = h.idlea; largest = a.largest; total = a.total; blocking = max b.largest (wire_size h.payload) }

abbrev pub lane_b : Header → Figures → Figures → Lane
lane_b h a b = record { idle = h.idleb; largest = b.largest; total = b.total; blocking = a.largest + ceil_div (max (D * wire_size h.payload) (h.idlea * b.largest)) (D - h.idlea) }

-- No number of a class is large, whatever its rows hold. (The header check is what limits the idle slope.)
pub record Modest (l : Lane) : Type 0 where
  pub idle : l.idle ≤ most_slope
  pub largest : l.largest ≤ most_modest
  pub total : l.total ≤ most_modest
  pub blocking : l.blocking ≤ most_modest

-- What a row's residence is made of is small, and has the row in it, if the row is there.
abbrev pub Ready : Row → Lane → Lane → Type 0
Ready r a b = is_there r ≡ true → Modest (pick_lane r.class a b) × ((0 < (pick_lane r.class a b).idle) × (size_of r ≤ (pick_lane r.class a b).total))

-- A row's residence by its class, 0 at an empty number.
abbrev pub time_by : Lane → Lane → Row → ℕ
time_by a b = if_there (λ r. residence_with (size_of r) (pick_lane r.class a b))
