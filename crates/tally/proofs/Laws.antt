-- What the crates above may cite.
pub use Rattle.tally.proofs.Quiet.{quiet}
