pub mod Fault
pub mod BlockNumber
pub mod Superblock
