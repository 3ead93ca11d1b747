-- Calls and answers as bytes, and the round trips' statements.
pub mod Calls
pub mod RoundTrip
