-- Laws that belong to no one function. `Tied` has the theorem; `Laws` is what the crates above may cite.
mod Signs
mod Moves
mod Turns
pub mod Tied
pub mod Laws
