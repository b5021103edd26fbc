pub mod Left
pub mod WrongFiles
pub mod Faults
pub mod Damage
pub mod LogsRead
pub mod IndexesRead
pub mod TakenBack
