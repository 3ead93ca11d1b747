-- The proof of demand 3, in the order of docs/PROMISES.md, "The proof in one screen". `Theorem` has the theorem.
mod Credit
pub mod Instants
mod Tokens
mod OneClass
pub mod Spaced
mod Chain
mod Both
mod Invariant
mod Start
mod Byte
mod Age
mod Offers
mod Fresh
mod Joins
mod Space
mod Soundness
mod Clauses
pub mod FromSound
pub mod Refused
mod EachFrame
mod Advances
mod Conservation
mod Trace
pub mod Within
mod Lists
pub mod Theorem
pub mod Placing
pub mod EveryList
pub mod Answers
pub mod Places
pub mod Effects
