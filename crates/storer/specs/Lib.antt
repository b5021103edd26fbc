pub mod Gathered
pub mod Faults
pub mod Valid
