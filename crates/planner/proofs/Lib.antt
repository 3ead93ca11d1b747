-- Laws that belong to no one function. `Laws` and `Growth` are what the crates above may cite.
mod Left
mod Members
mod Fill
mod Limits
mod Worked
mod Crowd
mod Checks
mod Verdicts
pub mod Growth
pub mod Laws
