-- What the crates above may cite.
pub use Rattle.tablefile.proofs.Sizes.{bit_shared, bytes_length, field_size, row_length}
pub use Rattle.tablefile.proofs.Rows.{default_by_pace, row_if, row_inside, accept_first, or_else, first_join, pace_in_range}
pub use Rattle.tablefile.proofs.Filled.{rows_count, Filled, read_filled}
