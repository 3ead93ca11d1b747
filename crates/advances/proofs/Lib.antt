-- Laws that belong to no one function.
mod Waiting
mod Begins
mod Judged
mod Sent
