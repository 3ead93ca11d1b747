-- Laws that belong to no one function: of fields and rows, of the header, of the rows turn by turn, and of the whole file.
mod Values
mod Faults
mod Headers
mod Turns
mod Files
