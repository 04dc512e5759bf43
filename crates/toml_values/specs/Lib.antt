pub mod Document
pub mod Refused
pub mod Values
pub mod Words
