-- What the crates above may cite.
pub use Rattle.frames.proofs.Naming.{limit_at, no_row_lem, no_place, by_place, not_used, row_here, no_frame_lem, no_best}
