pub mod InfoLaws
pub mod MembersLaws
pub mod ShowLaws
pub mod ShownLaws
pub mod TypesLaws
