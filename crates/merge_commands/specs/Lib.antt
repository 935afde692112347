pub mod Changes
pub mod Difference
pub mod Merge
pub mod Plan
