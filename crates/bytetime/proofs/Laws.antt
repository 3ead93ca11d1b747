-- What the crates above may cite.
pub use Rattle.bytetime.proofs.Moves.{passed_most}
