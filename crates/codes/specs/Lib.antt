-- What the calls from other languages return.
pub mod Codes
