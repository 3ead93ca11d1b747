-- Laws that belong to no one function: of stores, of fields and rows, and of the rows one behind the other.
mod Stores
mod Fields
mod Sizes
