pub mod ClapCommands
pub mod Grammar
pub mod Numbers
pub mod Reading
pub mod Verbs
