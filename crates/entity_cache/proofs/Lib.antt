pub mod HeldLemmas
pub mod KeepLemmas
pub mod Lookups
