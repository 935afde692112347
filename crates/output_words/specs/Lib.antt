pub mod Bounded
pub mod Text
