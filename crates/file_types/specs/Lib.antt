pub mod Fault
pub mod Read
pub mod Laws
pub mod Bounded
