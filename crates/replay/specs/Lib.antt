-- A list of calls on the port of a table file.
pub mod List
pub mod Steps
