pub mod Difference
pub mod Marks
