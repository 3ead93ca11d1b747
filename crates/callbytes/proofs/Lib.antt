mod Named
mod Answered
mod Held
pub mod Trip
pub mod Laws
