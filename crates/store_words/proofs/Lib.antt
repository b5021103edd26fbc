pub mod ClapCommands
pub mod ClapWalks
pub mod Decimals
pub mod AllWords
pub mod LentWords
pub mod Spelling
pub mod Taken
