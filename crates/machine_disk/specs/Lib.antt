pub mod Store
pub mod Kept
pub mod Touched
pub mod Ran
pub mod Laws
