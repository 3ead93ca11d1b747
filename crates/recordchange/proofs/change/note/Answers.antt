-- `recordchange::change::note` meets its contract: a row's mark and instant are put at its place.
use Prim.Native.Nat.{ℕ, ◌+◌, ◌*◌, ◌≤◌, ◌<◌}
use mathlib.Core.List.{List}
use mathlib.Core.Path.{◌≡◌, refl}
use borrow.Author.Tests.{lt-ltb, le-ltb}
use Rattle.table.specs.Limits.{most_rows}
use Rattle.machine.specs.declared.Frame.{Frame}
use Rattle.machine.specs.State.{at}
use Rattle.words.specs.Words.{stored}
use Rattle.recordbytes.specs.Layout.{last_start, last_width}
use Rattle.recordbytes.specs.Record.{last_words}
use Rattle.recordchange.specs.Changed.{noted_over}
use Rattle.recordchange.proofs.change.note.Goals as goal

no_place : (s : List ℕ) (f : Frame) → most_rows ≤ f.source → s ≡ noted_over f s
no_place s f h = rw (le-ltb f.source most_rows h) refl

noted : (s : List ℕ) (f : Frame) {t : List ℕ} → f.source < most_rows → t ≡ stored s (last_start + last_width * f.source) (last_words (at f.taken)) → t ≡ noted_over f s
noted s f h e = rw (lt-ltb f.source most_rows h) e

pub returns-then-row-ge-ROWS : goal.returns-then-row-ge-ROWS
returns-then-row-ge-ROWS c = no_place _ c.args.f c.if-row-ge-ROWS.true

pub returns : goal.returns
returns c = noted _ c.args.f c.if-row-ge-ROWS.false c.put_last.ensures
