-- What the table file's calls mean: the documents' layout, reading and writing.
pub mod Layout
pub mod Reading
pub mod Writing
pub mod RoundTrip
pub mod Front
