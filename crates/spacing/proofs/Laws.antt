-- What the crates above may cite.
pub use Rattle.spacing.proofs.Numbers.{fails_at, up_to_next, every, up_to_same, up_to_both, empty_spaced, queue_of, no_row_lem, no_place, all_places}
