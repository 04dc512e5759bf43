pub mod Agreed
pub mod Answered
