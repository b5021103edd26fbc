pub mod Sources
pub mod Positions
pub mod Conversion
pub mod Faults
