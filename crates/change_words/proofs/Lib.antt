pub mod Listed
pub mod Trees
pub mod Words
