pub mod Lends
pub mod Packing
pub mod Sound
pub mod Space
pub mod Units
