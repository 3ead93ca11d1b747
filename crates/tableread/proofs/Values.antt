-- A field's value and a row, as the code comes to them.
use Prim.Native.Nat.{ℕ, ◌+◌, ◌≤◌}
use mathlib.Core.Bool.{Bool, true, false}
use mathlib.Core.List.{List, [], ◌∷◌}
use mathlib.Core.Path.{◌≡◌, refl, sym, ◌∙◌, ap}
use native.Mathlib.Nat.{add-zero}
use native.Mathlib.Omega.{arith}
use lib.ListN.{get_or}
use Rattle.std.specs.Int.{w16, w32, from_be_bytes}
use Rattle.table.specs.declared.Class.{Class}
use Rattle.table.specs.declared.Pace.{Pace}
use Rattle.table.specs.declared.Pace.TheVariants as paces
use Rattle.table.specs.declared.Row.{Row}
use Rattle.table.specs.Limits.{most_period}
use Rattle.table.specs.Rows.{no_row}
use Rattle.table.specs.Wire.{period_of}
use Rattle.table.specs.Checks.{accepted}
use Rattle.table.proofs.Laws as law
use Rattle.tablefile.specs.declared.Edition.{Edition}
use Rattle.tablefile.specs.Layout.{value_at, Field, Deadline, Rate, Samples, width_of, default_deadline, bit_of, tagged_of, class_of, place_of}
use Rattle.tablefile.specs.Reading.{map_of, number_in, said, with_payload, pace_from, with_deadline, paced_from, row_from, row}
use Rattle.tablefile.proofs.Laws.{row_if, pace_in_range}

pub one_byte : (s : List ℕ) (at : ℕ) → value_at 1 s at ≡ get_or s at 0
unfolding value_at
one_byte s at = rw (add-zero at) (omega arith)

pub two_bytes : (s : List ℕ) (at : ℕ) {a b : ℕ} → a ≡ get_or s at 0 → b ≡ get_or s (at + 1) 0 → from_be_bytes w16 (a ∷ b ∷ []) ≡ value_at 2 s at
unfolding value_at
two_bytes s at ea eb = rw (ea, eb, add-zero at) (omega arith)

pub four_bytes : (s : List ℕ) (at : ℕ) {a b c d : ℕ} → a ≡ get_or s at 0 → b ≡ get_or s (at + 1) 0 → c ≡ get_or s (at + 2) 0 → d ≡ get_or s (at + 3) 0 → from_be_bytes w32 (a ∷ b ∷ c ∷ d ∷ []) ≡ value_at 4 s at
unfolding value_at
four_bytes s at ea eb ec ed = rw (ea, eb, ec, ed, add-zero at) (omega arith)

module _ (f : Field) (s : List ℕ) {m : ℕ} (is : m ≡ map_of s) {v : ℕ} where
  pub number_here : {p : ℕ} → p ≡ place_of f m → v ≡ value_at (width_of f) s p → v ≡ number_in f s
  number_here e g = g ∙ rw (e, is) refl

  module _ {b : Bool} (bit : b ≡ bit_of f m) (default : ℕ) where
    pub stated : b ≡ true → {p : ℕ} → p ≡ place_of f m → v ≡ value_at (width_of f) s p → v ≡ said f s default
    stated h e g = let q : bit_of f (map_of s) ≡ true = rw (← is) (sym bit ∙ h) in rw q (number_here e g)

    pub unstated : b ≡ false → v ≡ default → v ≡ said f s default
    unstated h g = let q : bit_of f (map_of s) ≡ false = rw (← is) (sym bit ∙ h) in rw q g

-- a field put into the row before it
pub deadline_put : (ed : Edition) (s : List ℕ) (before : Row) {v : ℕ} → v ≡ said Deadline s (default_deadline ed before) → ◌≡◌ {A = Row} (record { class = before.class; tagged = before.tagged; payload = before.payload; pace = before.pace; deadline = v }) (with_deadline ed s before)
deadline_put ed s before e = rw e refl

module _ (ed : Edition) (s : List ℕ) (before : Row) {m : ℕ} (is : m ≡ map_of s) {b : Bool} (bit : b ≡ bit_of Rate m) where
  pub by_rate : {v n : ℕ} → b ≡ true → v ≡ number_in Rate s → n ≡ number_in Samples s → paces.Rated n v ≡ pace_from ed s before
  by_rate h e g = let q : bit_of Rate (map_of s) ≡ true = rw (← is) (sym bit ∙ h) in rw (e, g, q) refl

pub paced_built : (ed : Edition) (s : List ℕ) {m : ℕ} {c : Class} {g : Bool} {n x : Row} {p : Pace} → m ≡ map_of s → c ≡ class_of m → g ≡ tagged_of ed m → n ≡ no_row → x ≡ with_payload ed s (record { class = c; tagged = g; payload = n.payload; pace = n.pace; deadline = n.deadline }) → p ≡ pace_from ed s x
    → ◌≡◌ {A = Row} (record { class = x.class; tagged = x.tagged; payload = x.payload; pace = p; deadline = x.deadline }) (paced_from ed s)
unfolding paced_from
paced_built ed s em ec eg en ex ep = rw (ep, ex, ec, eg, en, em) refl

pub row_built : (ed : Edition) (s : List ℕ) {x : Row} → x ≡ paced_from ed s → with_deadline ed s x ≡ row_from ed s
unfolding row_from
row_built ed s e = ap (with_deadline ed s) e

-- a deadline that stands
pub deadline_stated : (ed : Edition) (s : List ℕ) {m : ℕ} → m ≡ map_of s → {b : Bool} → b ≡ bit_of Deadline m → {p : ℕ} → p ≡ place_of Deadline m → {x : Row} → x ≡ paced_from ed s → {v : ℕ} → v ≡ value_at 4 s p → b ≡ true
    → ◌≡◌ {A = Row} (record { class = x.class; tagged = x.tagged; payload = x.payload; pace = x.pace; deadline = v }) (row_from ed s)
deadline_stated ed s is bit place {x} e g h = deadline_put ed s x (stated Deadline s is bit (default_deadline ed x) h place g) ∙ row_built ed s e

-- the period of a row that is let pass fits a deadline
pub short_period : (ed : Edition) (s : List ℕ) (at : ℕ) → row ed s at ≡ accepted → {x : Row} → x ≡ paced_from ed s → period_of x ≤ most_period
short_period ed s at e is = rw is (law.period_range (paced_from ed s) (pace_in_range ed s (row_if ed s at e))).1
