pub mod FramingLaws
pub mod CutLaws
pub mod TableLaws
pub mod IndexLaws
pub mod StreamLaws
pub mod WrittenLaws
