-- Laws that belong to no one function.
mod Lists
mod Places
mod Judged
