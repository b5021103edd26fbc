pub mod Ids
pub mod Limits
pub mod Graph
pub mod Stores
pub mod Served
