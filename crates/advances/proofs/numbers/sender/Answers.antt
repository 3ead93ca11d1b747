-- `advances::numbers::sender` meets its contract, by whether the frame names a row, whether the row has a place, and whether it is there.
use Prim.Native.Nat.{ℕ, zero, suc, ◌+◌, ◌-◌, ◌≤◌, ◌<◌}
use mathlib.Core.Bool.{true, false}
use mathlib.Core.Path.{◌≡◌, refl, sym, ◌∙◌, ap}
use native.Mathlib.Omega.{arith}
use lib.ListN.{length, get_or, take, replicate, length-take}
use lib.Seq.{get_or-append-add}
use Rattle.table.specs.declared.Row.{Row}
use Rattle.table.specs.declared.Table.{Table}
use Rattle.table.specs.Limits.{most_rows}
use Rattle.table.specs.Rows.{no_row, is_there, rows_of, contents, row_at, in_use}
use Rattle.table.proofs.Laws as table
use Rattle.machine.specs.declared.Frame.{Frame}
use Rattle.machine.specs.Time.{shaped, unshaped, owner}
use Rattle.advances.proofs.numbers.sender.Goals as goal
use Rattle.advances.proofs.numbers.sender.Goals.{else-k-t-via-then-k-t+then-k-lt-ROWS+else-is_there, else-k-t-via-then-k-t+else-k-lt-ROWS, else-k-t-via-else-k-t}

-- a row without a place is one of zeros
zeros : (n i : ℕ) → get_or (replicate n no_row) i no_row ≡ no_row
zeros zero i = refl
zeros (suc n) zero = refl
zeros (suc n) (suc i) = zeros n i

module _ (t : Table) (long : length t.rows ≡ most_rows) where
  no_place : (k : ℕ) → most_rows ≤ k → row_at (contents t) k ≡ no_row
  unfolding rows_of
  no_place k h =
      let front = take t.count t.rows in
      let few : length front ≤ k = rw (length-take, long) (omega arith) in
      let e : k ≡ length front + (k - length front) = omega arith in
      ap (λ (i : ℕ). row_at (contents t) i) e ∙ get_or-append-add front (replicate (t.count - length t.rows) no_row) (k - length front) no_row ∙ zeros (t.count - length t.rows) (k - length front)

  module _ (f : Frame) where
    of_row : {r : Row} → f.source < t.count → row_at (contents t) f.source ≡ r → is_there r ≡ true → owner (contents t) f ≡ shaped r.class
    unfolding owner
    of_row h e there = rw (table.used (contents t) f.source (table.there_used (contents t) f.source (rw e there)), e) refl

    of_none : in_use (contents t) f.source ≡ false → owner (contents t) f ≡ unshaped
    unfolding owner
    of_none h = rw h refl

pub returns-then-is_there : goal.returns-then-is_there
returns-then-is_there c =
    let long = table.places c.args.t _ c.well_formed.0 in
    let e = table.row_in_place c.args.t long c.args.f.source c.if-k-t.true c.if-k-lt-ROWS.true in
    rw (of_row c.args.t long c.args.f c.if-k-t.true e (sym c.is_there.ensures ∙ c.if-is_there.true)) c.class_sender.ensures

pub returns-else-k-t : goal.returns-else-k-t
returns-else-k-t c =
    let t = c.args.t in
    let k = c.args.f.source in
    let long = table.places t _ c.well_formed.0 in
    elim c.else-k-t.branch [
      | else-k-t-via-then-k-t+then-k-lt-ROWS+else-is_there w ↦
          rw (of_none t long c.args.f (table.empty (contents t) k (ap is_there (table.row_in_place t long k w.if-k-t.true w.if-k-lt-ROWS.true) ∙ (sym w.is_there.ensures ∙ w.if-is_there.false)))) refl
      | else-k-t-via-then-k-t+else-k-lt-ROWS w ↦
          rw (of_none t long c.args.f (table.empty (contents t) k (rw (no_place t long k w.if-k-lt-ROWS.false) table.no_row_there))) refl
      | else-k-t-via-else-k-t w ↦
          rw (of_none t long c.args.f (table.unused (contents t) k (rw (table.rows_length t) w.if-k-t.false))) refl
    ]
