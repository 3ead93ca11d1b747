-- Laws that belong to no one function. `Laws` is what the crates above may cite.
mod Words
mod Fields
pub mod Laws
