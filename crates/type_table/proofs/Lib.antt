pub mod PushLaws
pub mod AddLaws
pub mod MapLaws
pub mod GuessLaws
pub mod OrderedLaws
pub mod FramedLaws
pub mod KeptLaws
pub mod CanonTableLaws
