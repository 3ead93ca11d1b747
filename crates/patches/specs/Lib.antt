-- What the private functions promise each other.
pub mod Steps
