-- How far apart frames were taken, and what the private functions promise each other (Steps).
pub mod Spread
pub mod Steps
