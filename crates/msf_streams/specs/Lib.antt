pub mod Fault
pub mod Streams
pub mod Image
pub mod Put
pub mod Write
pub mod Laws
pub mod Container
