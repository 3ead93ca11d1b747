-- Laws that belong to no one function. `BothWays`, `SameAnswers` and `Front` have the theorems; `Laws` is what the crates above may cite.
mod Sizes
mod Rows
mod FieldTrip
mod MapTrip
mod RowTrip
mod RowsTrip
mod HeaderTrip
pub mod BothWays
pub mod SameAnswers
mod Filled
pub mod Front
pub mod Laws
