-- What byte-times mean on the numbers that they change, and what those numbers say of a port.
pub mod Bytes
pub mod Ports
