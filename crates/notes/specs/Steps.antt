-- What the private functions promise each other. No public promise cites this file.
use Rattle.std.specs.Prelude.{ℕ, true, false, List, ◌++◌, ◌≡◌}
use Rattle.table.specs.declared.Class.{Class}
use Rattle.table.specs.declared.Table.{Table}
use Rattle.table.specs.Rows.{contents}
use Rattle.figures.specs.declared.Lane.{Lane}
use Rattle.machine.specs.declared.Frame.{Frame}
use Rattle.machine.specs.Record.{all_of}
use Rattle.frames.specs.Tests.{frame_test, limits_by}
use Rattle.notes.specs.declared.Noted.{Noted}
use Rattle.notes.specs.declared.Order.{Order}
use Rattle.notes.specs.declared.Order.TheVariants.{Broken, Rising, Mixed}
use Rattle.notes.specs.Notes.{newests, counts, Notes, Apart}

-- Some frames noted behind whichever were noted before.
abbrev pub Behind : List Frame → List Noted → List Noted → Type 0
Behind fs old new = (gs : List Frame) → Notes gs (newests old) (counts old) → Notes (gs ++ fs) (newests new) (counts new)

abbrev pub StillApart : List Frame → Table → List Noted → Type 0
StillApart fs t old = (gs : List Frame) → Notes gs (newests old) (counts old) → Apart t gs → Apart t (gs ++ fs)

-- The frames of a class's queue: one may not be there, or all may, and are noted; in order, those that were apart before are with them.
abbrev pub QueueNoted : Class → List Frame → Table → Lane → Lane → ℕ → List Noted → List Noted → Order → Type 0
QueueNoted c fs t ofa ofb now old new Broken = all_of (frame_test c (contents t) (limits_by ofa ofb t.rows) now) fs ≡ false
QueueNoted c fs t ofa ofb now old new Rising = (all_of (frame_test c (contents t) (limits_by ofa ofb t.rows) now) fs ≡ true) × Behind fs old new × StillApart fs t old
QueueNoted c fs t ofa ofb now old new Mixed = (all_of (frame_test c (contents t) (limits_by ofa ofb t.rows) now) fs ≡ true) × Behind fs old new
