pub mod Known
pub mod Backed
pub mod Due
pub mod Kept
pub mod Plays
pub mod Making
pub mod Closing
pub mod Words
