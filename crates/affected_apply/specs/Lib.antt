pub mod Sees
pub mod Work
pub mod Turning
pub mod Machine
pub mod Noting
pub mod Parts
pub mod Jobs
pub mod Turned
