pub mod Places
pub mod Gathering
pub mod Parted
pub mod Documents
