pub mod IllTyped
pub mod Lines
pub mod Report
pub mod Laws
