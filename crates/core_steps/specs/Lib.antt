pub mod Core
pub mod Events
pub mod Rows
pub mod Steps
pub mod Good
pub mod Settled
pub mod Told
