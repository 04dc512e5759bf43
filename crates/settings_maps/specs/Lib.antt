pub mod KeyList
pub mod Maps
pub mod NamedValues
pub mod TxName
