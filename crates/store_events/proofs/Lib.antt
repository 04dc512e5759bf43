pub mod Elsewhere
pub mod Beginnings
pub mod Stays
pub mod Moves
pub mod Readings
pub mod Forgettings
