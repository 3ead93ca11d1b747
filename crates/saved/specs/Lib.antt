-- What the calls on a port that is kept as bytes promise.
pub mod Saved
