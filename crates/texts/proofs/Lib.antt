-- Laws that belong to no one function. `Laws` is what the crates above may cite.
mod Texts
pub mod Laws
