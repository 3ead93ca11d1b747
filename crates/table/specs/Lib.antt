-- What a table says: limits, wire sizes, periods and shares, rows, checks in their order, and rules 3 and 5.
pub mod Limits
pub mod Wire
pub mod Rows
pub mod Checks
pub mod Ranges
