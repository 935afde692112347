pub mod StreamLaws
pub mod ReadLaws
pub mod MemoryLaws
pub mod RefusedLaws
pub mod KnownLaws
