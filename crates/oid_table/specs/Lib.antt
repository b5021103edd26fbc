pub mod Distances
pub mod Lends
pub mod MapLaws
pub mod Slots
pub mod Sound
pub mod Table
