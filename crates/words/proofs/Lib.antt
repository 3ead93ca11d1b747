-- Laws that belong to no one function. `Laws` is what the crates above may cite.
mod Stored
mod Arrays
mod Fitting
mod Held
mod Spread
mod Rest
mod Bytes
pub mod Laws
