-- A record's bytes with a call carried out on them.
pub mod Changed
