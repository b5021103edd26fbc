pub mod Spelled
pub mod ReadAgain
pub mod Put
