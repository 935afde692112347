pub mod Graph
pub mod Order
pub mod Cycle
pub mod Laws
pub mod Walk
