pub mod Pairs
pub mod Refused
pub mod Rising
