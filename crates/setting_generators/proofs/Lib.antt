pub mod OneOutcome
pub mod SameKeys
pub mod Entries
pub mod Sorting
pub mod AskedParts
pub mod EntryParts
