pub mod Generators
pub mod Reading
pub mod Refused
pub mod Asking
