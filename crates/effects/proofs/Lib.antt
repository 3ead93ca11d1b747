-- Laws that belong to no one function. `Laws` is what the crates above may cite.
mod Waits
pub mod Laws
