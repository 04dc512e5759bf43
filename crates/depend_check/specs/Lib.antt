pub mod Reads
pub mod Nodes
pub mod Coverage
pub mod Laws
pub mod Owing
pub mod Steps
