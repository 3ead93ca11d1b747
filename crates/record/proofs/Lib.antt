-- Laws that belong to no one function.
mod Parts
mod Viewed
mod Walk
