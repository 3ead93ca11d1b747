-- A row as words, and the rows whose numbers fit their fields.
pub mod Row
pub mod Fits
