-- Words of 64 bits in a list of bytes.
pub mod Words
