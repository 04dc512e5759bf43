pub mod Bytes
pub mod Heads
pub mod Wholes
pub mod Agreement
pub mod Answering
