pub mod Cached
pub mod Contents
pub mod Keeping
