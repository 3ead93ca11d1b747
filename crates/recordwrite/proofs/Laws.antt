-- What the crates above may cite.
pub use Rattle.recordwrite.proofs.Storage.{written_fits, patched_fits}
