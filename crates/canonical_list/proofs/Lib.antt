pub mod RowLaws
pub mod HeadLaws
pub mod SortLaws
pub mod LinkLaws
pub mod FinishLaws
