pub mod Step
pub mod Entries
