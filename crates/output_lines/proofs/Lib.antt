pub mod DifferenceLaws
pub mod RecordsLaws
pub mod MapsLaws
pub mod StreamsLaws
