-- `sheets::sheet::put_table` meets its contract. The loop's invariant: the rows passed stand, and those that are left make the text whole.
use Prim.Native.Nat.{◌≤◌}
use mathlib.Core.Path.{◌≡◌}
use lib.ListN.{length}
use Rattle.sheets.specs.Sheet.{most_text}
use Rattle.sheets.proofs.Listing.{Listing}
use Rattle.sheets.proofs.sheet.put_table.Given as goal

abbrev pub invariant-loop-i : goal.invariant-loop-i
invariant-loop-i l = (most_text ≤ length l.out) × (length l.out ≡ length l.initial.out) × Listing l.fn.t l.i l.at l.out
