pub mod Lengths
pub mod Rising
pub mod Places
pub mod Fronts
pub mod Sound
pub mod Folds
