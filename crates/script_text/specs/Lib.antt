pub mod Keywords
pub mod Fields
pub mod Utf8
pub mod Arguments
pub mod Meaning
pub mod Lines
pub mod Faults
pub mod Given
