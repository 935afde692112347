pub mod CheckLaws
pub mod NumberLaws
pub mod NameLaws
pub mod BytesLaws
