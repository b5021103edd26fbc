pub mod IdSets
pub mod Graphs
pub mod Places
pub mod Rising
pub mod Walks
