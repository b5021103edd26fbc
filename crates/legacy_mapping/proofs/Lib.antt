pub mod PositionLemmas
pub mod SourceLemmas
pub mod Lists
pub mod Apartness
pub mod Plans
pub mod Conversions
pub mod Takings
