pub mod Plain
pub mod Worlds
pub mod Steps
pub mod Jobs
pub mod Turns
pub mod Openings
pub mod Changes
pub mod Verified
