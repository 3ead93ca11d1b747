-- What is noted of the frames in a record, what is asked of those that wait, and what the private functions promise each other (Steps).
pub mod Notes
pub mod Steps
