-- Laws that belong to no one function. `Room` and `Front` have the theorems.
mod Lines
mod Listing
pub mod Room
pub mod Front
