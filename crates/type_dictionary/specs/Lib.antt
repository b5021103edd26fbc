pub mod Latest
pub mod Records
pub mod Kept
pub mod Declaring
pub mod Faults
