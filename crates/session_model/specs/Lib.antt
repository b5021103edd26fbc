pub mod Commands
pub mod Types
pub mod Instances
pub mod Loading
pub mod WellFormed
pub mod Sound
pub mod Answer
