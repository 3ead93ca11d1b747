-- Laws that belong to no one function.
mod Tests
mod Named
