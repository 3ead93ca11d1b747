-- What the crates above may cite.
pub use Rattle.words.proofs.Stored.{stored_front, more, two, three, four, stored_length, bytes_length}
pub use Rattle.words.proofs.Arrays.{array_places}
pub use Rattle.words.proofs.Fitting.{put_fits, all_fit}
pub use Rattle.words.proofs.Held.{Held, held_whole, held_stored, held_same, whole_held, word_small, stored_behind}
pub use Rattle.words.proofs.Spread.{Agree, agree_more, stored_agrees, held_agrees, spread_length, spread_agrees, spread_none, spread_next, HeldEach, each_agrees, spread_held, spread_behind, each_same, gathered_back, gathered_length, gathered_every, gathered_none, gathered_next}
pub use Rattle.words.proofs.Rest.{bytes_each, Rest, rest_whole, rest_stored, rest_spread, held_rest, each_rest, spread_more, spread_set}
