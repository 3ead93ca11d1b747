-- What is asked of the frames of each row, and what the private functions promise each other (Steps).
pub mod Rows
pub mod Steps
