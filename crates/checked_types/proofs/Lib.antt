pub mod CheckLaws
pub mod GraphLaws
pub mod OrderLaws
pub mod CycleLaws
pub mod MeasureLaws
pub mod DeepLaws
