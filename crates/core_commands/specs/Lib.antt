pub mod Asking
pub mod Carried
pub mod Committing
pub mod Handing
pub mod Laws
pub mod Lines
pub mod Telling
pub mod Verifying
