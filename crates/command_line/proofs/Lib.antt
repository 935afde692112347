pub mod IndexLaws
pub mod ListLaws
