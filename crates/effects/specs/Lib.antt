-- What queues and records are when an effect is carried out on them.
pub mod Queues
pub mod Records
