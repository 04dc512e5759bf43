mod Rows
pub mod NameOrder
pub mod NameSets
pub mod NextNames
pub mod LongerKeys
pub mod ChildSteps
pub mod Additions
pub mod Trees
pub mod Entries
pub mod Quoted
pub mod ReadBack
