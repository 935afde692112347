pub mod Fault
pub mod Graph
pub mod Order
pub mod Check
pub mod Laws
pub mod Measured
