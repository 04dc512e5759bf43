pub mod Bodies
pub mod RenderWords
pub mod Replies
pub mod StateLines
