-- Laws that belong to no one function. `Laws` is what the crates above may cite.
mod Notes
mod Turns
pub mod Laws
