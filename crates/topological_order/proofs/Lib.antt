pub mod WalkLaws
pub mod OrderLaws
pub mod CycleLaws
