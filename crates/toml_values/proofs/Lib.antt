pub mod Documents
pub mod Items
pub mod Joins
pub mod OtherNames
