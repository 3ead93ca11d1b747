-- Laws that belong to no one function. `Trip` has the theorems; `Laws` is what the crates above may cite.
mod Signs
mod Lists
mod Marks
mod Owned
mod Carried
mod Fields
mod Tested
mod Stands
mod Kept
mod Patched
mod Placing
pub mod Trip
pub mod Laws
