pub mod Check
pub mod Difference
pub mod Info
pub mod Maps
pub mod Record
pub mod Records
pub mod Streams
pub mod Types
