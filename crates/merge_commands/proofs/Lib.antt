pub mod ChangesLaws
pub mod DifferenceLaws
pub mod MapsLaws
pub mod MergeLaws
pub mod PlanLaws
