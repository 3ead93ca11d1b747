-- `notes::noting::note_queue` meets its contract: at i the frames before i are noted, and those from i on decide the test of all.
use Prim.Native.Nat.{ℕ, ◌≤◌}
use mathlib.Core.Bool.{Bool}
use mathlib.Core.Path.{◌≡◌}
use lib.ListN.{length, drop}
use Rattle.table.specs.declared.Class.{Class}
use Rattle.table.specs.declared.Table.{Table}
use Rattle.table.specs.Rows.{contents}
use Rattle.figures.specs.declared.Lane.{Lane}
use Rattle.machine.specs.declared.Frame.{Frame}
use Rattle.machine.specs.Record.{all_of}
use Rattle.frames.specs.Tests.{limits_by, frame_test}
use Rattle.notes.proofs.Turns.{Going}
use Rattle.notes.proofs.noting.note_queue.Given as goal

-- the test of a frame by its class
abbrev pub ok : Class → Table → Lane → Lane → ℕ → Frame → Bool
ok c t ofa ofb now = frame_test c (contents t) (limits_by ofa ofb t.rows) now

abbrev pub invariant-loop-f : goal.invariant-loop-f
invariant-loop-f l =
    (l.f-index ≤ length l.frames) × (all_of (ok l.class l.t l.lanes.a l.lanes.b l.clock) (drop l.f-index l.frames) ≡ all_of (ok l.class l.t l.lanes.a l.lanes.b l.clock) l.frames) × Going l.initial.noted l.frames l.t l.f-index l.noted l.rising
