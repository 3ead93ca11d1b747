-- Laws that belong to no one function.
mod Waits
mod Judged
