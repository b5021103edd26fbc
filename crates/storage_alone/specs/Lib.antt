pub mod Steady
pub mod Faults
pub mod Asks
pub mod Holding
pub mod Tied
pub mod Standing
pub mod Storing
