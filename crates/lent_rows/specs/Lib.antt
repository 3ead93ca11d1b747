-- What the bounds of lent rows mean is the planner's `Shown`, at the list itself.
pub mod Steps
