pub mod TakingBack
pub mod OneDisk
pub mod HeldStill
pub mod LogsSoFar
pub mod Agreed
pub mod FileEnds
pub mod Readied
