-- Laws that belong to no one function. `Laws` is what the crates above may cite.
mod Division
mod Shape
mod Search
mod Ranged
mod Patched
pub mod Laws
pub mod Answers
