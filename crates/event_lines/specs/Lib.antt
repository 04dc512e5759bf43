pub mod Logfmt
pub mod Lines
pub mod Due
pub mod Logs
