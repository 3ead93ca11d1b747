-- Reading keeps the promise of `tablefile`'s specs/Reading.antt.
pub mod Results
