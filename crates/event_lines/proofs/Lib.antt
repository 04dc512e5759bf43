pub mod Texts
pub mod Made
pub mod Changes
pub mod Logging
