-- What the crates above may cite.
pub use Rattle.notes.proofs.Notes.{zero_noted, newest_at, count_at, none_noted, is_order, no_order}
pub use Rattle.notes.proofs.Turns.{few_noted}
