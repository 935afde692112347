pub mod Index
pub mod Fault
pub mod List
