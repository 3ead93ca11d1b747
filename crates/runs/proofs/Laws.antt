-- What the crates above may cite.
pub use Rattle.runs.proofs.Going.{goes_on, stops, then_on, none_read, count_fits, answers_led, begins_led}
