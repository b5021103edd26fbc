pub mod Faults
pub mod Finished
pub mod Full
pub mod Held
pub mod Ready
