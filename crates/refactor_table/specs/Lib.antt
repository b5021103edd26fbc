pub mod Names
pub mod Pairs
pub mod Faults
pub mod Reading
pub mod Index
pub mod Table
