-- `recordwrite::write::put_lasts` meets its contract: after i turns the instants of the first i numbers are stored, if they are in use.
use Prim.Native.Nat.{◌+◌, ◌*◌, min}
use mathlib.Core.Path.{◌≡◌, refl, ◌∙◌, ap}
use native.Mathlib.Omega.{arith}
use lib.ListN.{length}
use Rattle.table.specs.Limits.{most_rows}
use Rattle.table.specs.Rows.{no_row}
use Rattle.table.proofs.Laws.{places}
use Rattle.machine.specs.State.{never}
use Rattle.words.proofs.Laws.{stored_length, spread_none, spread_next}
use Rattle.recordbytes.specs.Layout.{last_start, last_width}
use Rattle.recordbytes.specs.Record.{marked_words}
use Rattle.recordwrite.proofs.Storage.{marks, marks_length, mark_at, marks_placed}
use Rattle.recordwrite.proofs.write.put_lasts.Goals as goal

pub loop-i-init : goal.loop-i-init
loop-i-init c = (refl, spread_none _ _ _ _)

pub loop-i-preserved : goal.loop-i-preserved
loop-i-preserved c =
    let n = marks_length c.args.t c.args.lasts in (
      ap length c.put_mark.ensures ∙ stored_length c.loop-i.out (last_start + last_width * c.loop-i.i) _ ∙ c.loop-i.invariant.0,
      spread_next marked_words last_width last_start (marks c.args.t c.args.lasts) _ c.loop-i.i (no_row, never) (omega (arith, n)) c.loop-i.invariant.1 (c.put_mark.ensures ∙ rw (mark_at c.args.t c.args.lasts (places c.args.t _ c.well_formed.1.0) c.loop-i.i (omega arith) (omega arith)) refl),
    )

pub returns : goal.returns
returns c =
    let all : c.loop-i.i ≡ min c.args.t.count most_rows = omega arith in
    c.loop-i.invariant.1 ∙ rw (all, marks_placed c.args.t c.args.lasts) refl
