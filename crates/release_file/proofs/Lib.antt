pub mod Versions
pub mod Farthest
pub mod Plans
pub mod Pairs
mod Checking
mod LeftChecks
pub mod NoWork
pub mod Rising
mod Made
mod Checked
mod OneFault
mod TextsLeft
pub mod SpelledKeys
mod Entries
mod SectionNames
