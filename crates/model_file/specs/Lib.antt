pub mod Document
pub mod Entries
pub mod Rows
pub mod Checks
pub mod Contents
pub mod Model
pub mod Refused
