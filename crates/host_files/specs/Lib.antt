pub mod Fault
pub mod Output
pub mod Files
pub mod Streams
