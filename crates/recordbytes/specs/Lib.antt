-- A port record as bytes: the places of its words, what bytes are read as, the ports that a record can hold, the port record that is handed out, and the round trips'
-- statements.
pub mod Layout
pub mod Record
pub mod Fits
pub mod Port
pub mod RoundTrip
