pub mod NameReading
pub mod Indexes
pub mod Rows
