-- What a sheet says.
pub mod Sheet
