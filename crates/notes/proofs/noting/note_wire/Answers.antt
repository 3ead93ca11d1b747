-- `notes::noting::note_wire` meets its contract, by what is on the wire.
use Prim.Native.Nat.{ℕ, ◌+◌, ◌≤◌, ◌<◌, max}
use mathlib.Core.List.{List, []}
use mathlib.Core.Path.{◌≡◌}
use native.Mathlib.Omega.{arith}
use lib.ListN.{get_or, set}
use Rattle.table.specs.Limits.{most_rows}
use Rattle.machine.specs.declared.Frame.{Frame}
use Rattle.machine.specs.declared.Wire.{Wire}
use Rattle.machine.specs.declared.Wire.TheVariants.{Free, Sending}
use Rattle.machine.specs.Record.{sending}
use Rattle.std.proofs.lemmas.List.{map-set}
use Rattle.notes.specs.declared.Noted.{Noted}
use Rattle.notes.specs.Notes.{newests, counts, Notes}
use Rattle.notes.proofs.Notes.{noted_here, not_noted}
use Rattle.notes.proofs.noting.note_wire.Goals as goal

abbrev newest_of : Noted → ℕ
newest_of n = n.newest

abbrev count_of : Noted → ℕ
count_of n = n.count

module _ (xs ns : List ℕ) (n : Notes [] xs ns) {w : Wire} where
  on_free_lem : w ≡ Free → Notes (sending w) xs ns
  on_free_lem e = rw e n

  module _ (f : Frame) (left : ℕ) (e : w ≡ Sending f left) where
    of_row : f.source < most_rows → Notes (sending w) (set xs f.source f.taken) (set ns f.source 1)
    of_row h =
        let top : max (get_or xs f.source 0) f.taken ≡ f.taken = omega (arith, n.newest f.source h) in
        let one : get_or ns f.source 0 + 1 ≡ 1 = omega (arith, n.counts f.source h) in
        rw e (rw (top, one) at (noted_here [] xs ns n f h))

    of_none : most_rows ≤ f.source → Notes (sending w) xs ns
    of_none h = rw e (not_noted [] xs ns n f h)

pub returns-then-k-lt-ROWS : goal.returns-then-k-lt-ROWS
returns-then-k-lt-ROWS c =
    rw (map-set newest_of c.args.noted.now c.in-Sending.f.source _, map-set count_of c.args.noted.now c.in-Sending.f.source _) (of_row (newests c.args.noted.now) (counts c.args.noted.now) c.requires c.in-Sending.f c.in-Sending.field-1 c.in-Sending.is c.if-k-lt-ROWS.true)

pub returns-else-k-lt-ROWS : goal.returns-else-k-lt-ROWS
returns-else-k-lt-ROWS c =
    of_none (newests c.args.noted.now) (counts c.args.noted.now) c.requires c.in-Sending.f c.in-Sending.field-1 c.in-Sending.is c.if-k-lt-ROWS.false

pub returns-in_default : goal.returns-in_default
returns-in_default c =
    on_free_lem (newests c.args.noted.now) (counts c.args.noted.now) c.requires c.in_default.is
