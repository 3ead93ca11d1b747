-- What the planner works out: sums over a class, blocking, residences and bounds, how many frames may be in the port, acceptance, and what joins and leaves do to them.
pub mod Sums
pub mod Bound
pub mod Opening
pub mod Plan
pub mod Growth
pub mod Steps
