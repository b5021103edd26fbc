pub mod Headers
pub mod Rule
pub mod Chunks
