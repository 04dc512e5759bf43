pub mod Wanting
pub mod Reported
