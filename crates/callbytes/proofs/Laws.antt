-- What the crates above may cite.
pub use Rattle.callbytes.proofs.Answered.{answer_length, answer_fits}
