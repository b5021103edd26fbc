-- Lemmas on the files of a disk in memory.
pub mod Images
pub mod FilesChanged
pub mod FileCalls
pub mod Restarts
pub mod Whole
