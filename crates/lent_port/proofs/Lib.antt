-- Laws that belong to no one function. `Step` has that an advance of a lent record is a step of a run.
pub mod Step
