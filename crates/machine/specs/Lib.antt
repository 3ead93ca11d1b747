-- What the port's calls mean: document 01's byte-time machine, its calls and their refusals, and what is promised of a list of calls.
pub mod Limits
pub mod State
pub mod Time
pub mod Record
pub mod Calls
pub mod Effects
pub mod Run
