-- Laws that belong to no one function. `Laws` is what the crates above may cite.
mod Calls
mod Buffers
pub mod Runs
mod Reading
mod Files
pub mod Forms
pub mod OtherForms
pub mod Printed
mod Going
pub mod Laws
