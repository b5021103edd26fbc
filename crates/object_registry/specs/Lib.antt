pub mod Bindings
pub mod References
pub mod Registered
pub mod Entries
