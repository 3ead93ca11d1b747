-- What `portrun` makes of its table file and of its input, and that all it prints is what a run gives.
pub mod Answers
pub mod Forms
pub mod Runs
pub mod Opened
pub mod Printed
pub mod Led
pub mod Steps
