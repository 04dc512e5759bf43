pub mod Word
pub mod Takes
pub mod Pattern
pub mod Row
pub mod Faults
pub mod Order
pub mod Laws
