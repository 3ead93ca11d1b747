-- The port of a table file, which calls are joins and leaves, and what a call comes to.
pub mod Turns
pub mod Steps
