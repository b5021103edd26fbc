-- What the contracts of sources, sinks and disks cite.
pub mod Disk
pub mod Image
pub mod Files
pub mod MemDisk
pub mod Restart
pub mod Whole
pub mod Failing
pub mod Memory
