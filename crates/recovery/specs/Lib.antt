pub mod Images
pub mod Reach
pub mod Stored
pub mod Disks
pub mod Alone
pub mod Walking
pub mod Searching
