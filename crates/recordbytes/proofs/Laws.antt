-- What the crates above may cite.
pub use Rattle.recordbytes.proofs.Signs.{plain}
pub use Rattle.recordbytes.proofs.Lists.{gathered_at}
pub use Rattle.recordbytes.proofs.Marks.{marked_length, marked_at}
pub use Rattle.recordbytes.proofs.Owned.{owned_numbered}
pub use Rattle.recordbytes.proofs.Carried.{EffectFits, owned_effect, carried_fits}
pub use Rattle.recordbytes.proofs.Placing.{placed_none, placed_next, placed_are}
pub use Rattle.recordbytes.proofs.Tested.{Head, head_words_lem, Counts, counts, long, named_placed}
pub use Rattle.recordbytes.proofs.Stands.{Stands, table_again, named_stands}
pub use Rattle.recordbytes.proofs.Kept.{frames_same, queue_same, queue_rest, queue_kept, queue_joined, lasts_kept, lasts_noted, bounds_kept}
pub use Rattle.recordbytes.proofs.Patched.{over_patched, owned_patched}
