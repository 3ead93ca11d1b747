-- What the private functions of the crate promise each other. No public promise cites this file.
use Rattle.std.specs.Prelude.{ℕ, ◌+◌, ◌*◌, List, take}
use Rattle.table.specs.Limits.{class_places}
use Rattle.spacing.specs.declared.Instants.{Instants}

-- The places of a list of instants: the frames of both class queues, and of the wire.
abbrev pub most_frames : ℕ
most_frames = 2 * class_places + 1

-- The instants that are listed.
abbrev pub listed : Instants → List ℕ
listed xs = take xs.count xs.taken
