-- Laws that belong to no one function.
mod Outcomes
mod Listing
