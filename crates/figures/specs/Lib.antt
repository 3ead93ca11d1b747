-- What a row adds to its class, what the figures of the classes make of each class, and what a class makes of a row.
pub mod Parts
pub mod Lanes
pub mod Steps
