pub mod Events
pub mod Headline
pub mod Touched
pub mod Agreeing
pub mod Laws
pub mod Life
