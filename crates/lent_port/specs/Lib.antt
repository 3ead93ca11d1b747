-- What the call with a lent record means.
pub mod Lent
