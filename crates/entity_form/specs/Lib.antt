pub mod Values
pub mod Reading
pub mod Faults
pub mod Form
pub mod Spelling
pub mod KnownForm
