-- What the calls on table files promise.
pub mod Files
