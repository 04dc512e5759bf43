pub mod Dump
pub mod HeldRules
pub mod HeldText
pub mod Refusals
