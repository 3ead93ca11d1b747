-- Laws that belong to no one function.
mod Leaving
mod Changing
