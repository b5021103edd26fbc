pub mod Flags
pub mod Events
