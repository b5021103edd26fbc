pub mod Forms
pub mod Mappings
pub mod Walks
pub mod Steps
pub mod Advances
pub mod Tables
